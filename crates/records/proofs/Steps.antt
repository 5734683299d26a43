-- What writes of all words of a part leave.
use mathlib.Core.Path.{◌≡◌, refl, ◌∙◌}
use mathlib.Core.List.{List, [], ◌∷◌, append-nil}
use Prim.Native.Nat.{ℕ}
use native.Mathlib.Nat.{zero-add}
use native.Mathlib.Omega.{arith}
use mir.Val.{bool_byte}
use lib.ListN.{length}
use lib.Seq.{paste, take_all, drop-length}
use Rattle.lists.proofs.Tests.{flag_word}
use Rattle.codec.specs.Codec.{enc_two}
use Rattle.layout.specs.Contents.{Head, Agreed, Status}
use Rattle.layout.specs.Layout.{layout_version, head_codec, agreed_codec, status_codec}

-- every word is written
put_all : (vs w : List ℕ) → length w ≡ length vs → paste w 0 vs (length vs) ≡ vs
put_all vs w h = rw (take_all (length vs) vs (omega arith), zero-add (length vs), ← h, drop-length w) (append-nil vs)

abbrev head_list : Head → List ℕ
head_list a =
    layout_version ∷ a.settings.places ∷ a.settings.size ∷ a.settings.entries ∷ a.settings.chunks ∷ a.view ∷ a.given ∷ a.started ∷ []

pub head_written : (a : Head) (w : List ℕ) → length w ≡ 8 → paste w 0 (head_list a) 8 ≡ head_codec.enc a w
unfolding enc_two
head_written a w h = put_all (head_list a) w h

abbrev agreed_list : Agreed → List ℕ
agreed_list a =
    a.primary ∷ a.backup ∷ a.last_primary ∷ a.last_backup ∷ bool_byte a.ready ∷ bool_byte a.fetched ∷ a.last_sent ∷ a.taken ∷ []

pub agreed_written : (a : Agreed) (w : List ℕ) → length w ≡ 8 → paste w 0 (agreed_list a) 8 ≡ agreed_codec.enc a w
unfolding enc_two
agreed_written a w h = put_all (agreed_list a) w h ∙ rw (flag_word a.ready, flag_word a.fetched) refl

pub status_written : (a : Status) (w : List ℕ) → length w ≡ 5
    → paste w 0 (bool_byte a.up ∷ bool_byte a.member ∷ bool_byte a.began ∷ a.next ∷ a.ceiling ∷ []) 5 ≡ status_codec.enc a w
unfolding enc_two
status_written a w h =
    put_all (bool_byte a.up ∷ bool_byte a.member ∷ bool_byte a.began ∷ a.next ∷ a.ceiling ∷ []) w h
    ∙ rw (flag_word a.up, flag_word a.member, flag_word a.began) refl
