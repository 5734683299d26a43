-- What the calls on a lent store answer and leave.
use Rattle.std.specs.Prelude.{◌≡◌, List, Bool, cond, ℕ, eqb, length, Result, Ok, Err}
use Rattle.rules.specs.declared.refusal.Refusal.{Refusal}
use Rattle.rules.specs.declared.refusal.Refusal.TheVariants.{BadSettings}
use Rattle.lists.specs.Tests.{◌and◌}
use Rattle.rules.specs.declared.settings.Settings.{Settings}
use Rattle.rules.specs.Limits.{in_limits}
use Rattle.rules.specs.Format.{format}
use Rattle.layout.specs.Store.{render_bytes, store_bytes, sound_bytes}

abbrev pub settings : ℕ → ℕ → ℕ → ℕ → Settings
settings n s m l = record { places = n; size = s; entries = m; chunks = l }

-- length: the bytes to lend, or a no to question 1; as a number, 0
unfoldable pub length_of : Settings → Result ℕ Refusal
length_of c = cond (in_limits c) (Ok (store_bytes c)) (Err BadSettings)

unfoldable pub length_answer : Settings → ℕ
length_answer c = cond (in_limits c) (store_bytes c) 0

-- question 1: settings in limits and the memory of the right length?
unfoldable pub may_format : Settings → List ℕ → Bool
may_format c bs = in_limits c and eqb (length bs) (store_bytes c)

-- format: 1 where question 1 says no, and nothing changes; else 0, and the first state is rendered over the bytes
pub record Formatted (c : Settings) (before : List ℕ) (answer : ℕ) (after : List ℕ) : Type 0 where
  pub code : answer ≡ cond (may_format c before) 0 1
  pub bytes : after ≡ cond (may_format c before) (render_bytes (format c) before) before

-- check: 0 where the bytes are a sound store, else 2
unfoldable pub check_answer : List ℕ → ℕ
check_answer bs = cond (sound_bytes bs) 0 2
