-- A slice in parts of one size, counted in words.
use Rattle.std.specs.Prelude.{List, ℕ, ◌*◌, take, drop}

-- part i of the bytes
abbrev pub part_of : ℕ → ℕ → List ℕ → List ℕ
part_of size i s = take (8 * size) (drop (8 * (i * size)) s)
