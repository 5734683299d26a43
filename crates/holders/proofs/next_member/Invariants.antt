use Rattle.words.specs.Words.{words}
use Rattle.layout.specs.Store.{decode}
use Rattle.holders.proofs.Scan.{Scanned}
use Rattle.holders.proofs.next_member.Given as goal

abbrev pub invariant-loop-place : goal.invariant-loop-place
invariant-loop-place l = Scanned l.settings (decode (words l.store)) l.from l.to l.place l.least l.first
