use mathlib.Core.Path.{ap₂, ◌∙◌}
use Prim.Native.Nat.{ℕ}
use native.Mathlib.Omega.{arith}
use Rattle.words.specs.Words.{words}
use Rattle.entries.specs.Entries.{copied_entries}
use Rattle.recovery.proofs.Replaced.{few_still}
use Rattle.recovery.proofs.copies.replace.Goals as goal

pub copy-requires-2 : goal.copy-requires-2
copy-requires-2 c =
    let t = c.args.settings in
    let ws = words c.args.store.now in
    record {
      first_in = omega (arith, c.requires.size, c.memory_at-source.ensures.1);
      second_in = omega (arith, c.requires.size, c.memory_at-memory.ensures.1);
      few = rw c.memory_at-source.ensures.0
          (few_still t c.args.bucket c.args.from c.args.to c.args.store.now c.requires _
          (c.copy.ensures ∙ ap₂ (λ (i j : ℕ). copied_entries t.entries i j ws) c.memory_at-source.ensures.0 c.disk_at-disk.ensures.0));
    }
