-- Block numbers and chunk keys.
use Rattle.std.specs.Prelude.{List, Bool, ℕ, ◌+◌, ◌*◌, ◌/◌, ◌%◌, ◌^◌, ltb, eqb, length}
use Rattle.lists.specs.Tests.{◌and◌, every}

-- block numbers are below 2^51
abbrev pub block_count : ℕ
block_count = 2 ^ 51

-- proxy = block divided by 2^49
abbrev pub proxy_blocks : ℕ
proxy_blocks = 2 ^ 49

unfoldable pub proxy_of : ℕ → ℕ
proxy_of block = block / proxy_blocks

-- bucket = (block divided by 1,024) mod the number of buckets
abbrev pub run_blocks : ℕ
run_blocks = 1024

unfoldable pub bucket_of : ℕ → ℕ → ℕ
bucket_of count block = block / run_blocks % count

-- a chunk key is the brick id times 2^56 plus a sequence number from 0
abbrev pub sequences : ℕ
sequences = 2 ^ 56

abbrev pub key_of : ℕ → ℕ → ℕ
key_of id sequence = id * sequences + sequence

-- the home brick is the id in the key
abbrev pub home_of : ℕ → ℕ
home_of key = key / sequences

abbrev pub sequence_of : ℕ → ℕ
sequence_of key = key % sequences

-- data of S bytes
unfoldable pub is_data : ℕ → List ℕ → Bool
is_data size bytes = eqb (length bytes) size and every (λ b. ltb b 256) bytes
