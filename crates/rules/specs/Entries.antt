-- Entries: what bucket copies, items and append buffers hold. Copies and items are sorted by block, one entry for each; a buffer is in arrival order.
use Rattle.std.specs.Prelude.{List, [], ◌∷◌, Bool, true, not, cond, ℕ, suc, ltb, leb, eqb, length}
use Rattle.lists.specs.Tests.{◌and◌, ◌or◌, any, only}
use Rattle.rules.specs.Numbers.{bucket_of}

pub record Entry : Type 0 where
  pub block : ℕ
  pub key : ℕ

abbrev pub entry : ℕ → ℕ → Entry
entry block key = record { block = block; key = key }

-- the key of a block: key 0 means no mapping
unfoldable pub key_for : List Entry → ℕ → ℕ
key_for [] block = 0
key_for (entry ∷ rest) block = cond (eqb block entry.block) entry.key (key_for rest block)

-- is there an entry for the block?
unfoldable pub has : List Entry → ℕ → Bool
has entries block = any (λ e. eqb block e.block) entries

-- is the key that of some entry?
unfoldable pub names : List Entry → ℕ → Bool
names entries key = any (λ e. eqb key e.key) entries

-- blocks ascend, from a floor on
unfoldable pub ascending : ℕ → List Entry → Bool
ascending floor [] = true
ascending floor (entry ∷ rest) = leb floor entry.block and ascending (suc entry.block) rest

-- the block gets the key, at its place in the order
unfoldable pub insert : List Entry → ℕ → ℕ → List Entry
insert [] block key = entry block key ∷ []
insert (first ∷ rest) block key =
    cond (ltb block first.block) (entry block key ∷ first ∷ rest)
    (cond (eqb block first.block) (entry block key ∷ rest) (first ∷ insert rest block key))

-- the block's entry goes
unfoldable pub remove : List Entry → ℕ → List Entry
remove entries block = only (λ e. not (eqb block e.block)) entries

-- may a copy of at most so many entries take the block?
unfoldable pub takes : ℕ → List Entry → ℕ → Bool
takes most entries block = has entries block or ltb (length entries) most

-- is an entry of the bucket?
unfoldable pub is_of_bucket : ℕ → ℕ → Entry → Bool
is_of_bucket count number entry = eqb (bucket_of count entry.block) number

-- buffer entries move into a copy in arrival order; a new block that finds it full is dropped
abbrev pub insert_if_room : ℕ → List Entry → Entry → List Entry
insert_if_room most copy entry = cond (takes most copy entry.block) (insert copy entry.block entry.key) copy

unfoldable pub drain : ℕ → List Entry → List Entry → List Entry
drain most copy [] = copy
drain most copy (entry ∷ rest) = drain most (insert_if_room most copy entry) rest
