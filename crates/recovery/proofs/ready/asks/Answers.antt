use mathlib.Core.Path.{◌≡◌, sym, ap, ◌∙◌}
use mathlib.Core.Bool.{Bool}
use mathlib.Core.List.{◌∷◌}
use Rattle.std.proofs.lemmas.Result.{err_from_is_err_and}
use Rattle.words.specs.Words.{words}
use Rattle.rules.specs.Derived.{up_member}
use Rattle.rules.specs.Question.{◌asks◌, first_no}
use Rattle.rules.specs.Views.{ready_asks}
use Rattle.rules.proofs.Questions.{first_yes, first_stop}
use Rattle.rules.proofs.Refusals.{refuses_there}
use Rattle.layout.specs.Contents.{Agreed}
use Rattle.layout.specs.Store.{decode}
use Rattle.records.specs.Records.{agreed_of}
use Rattle.recovery.specs.Asks.{bucket_asks, fetched_asks}
use Rattle.recovery.proofs.Questions.{bucket_yes, bucket_more}
use Rattle.recovery.proofs.ready.asks.Goals as goal
use Rattle.recovery.proofs.ready.asks.Goals.{After-up_member}

-- the questions after those of the bucket
later : (c : After-up_member) → first_no (ready_asks (decode (words c.args.store.now)) c.args.bucket)
    ≡ first_no ((6 asks c.up_member.result) ∷ fetched_asks (agreed_of c.agreed-agreed.result))
later c =
    let s = decode (words c.args.store.now) in
    bucket_more c.args.settings c.args.store.now c.requires c.args.bucket (sym c.in_ok-bucket_asks.ensures) _
    ∙ ap (λ (k : Agreed). first_no ((6 asks up_member s k.backup) ∷ fetched_asks k)) (sym c.agreed-agreed.ensures)
    ∙ ap (λ (b : Bool). first_no ((6 asks b) ∷ fetched_asks (agreed_of c.agreed-agreed.result))) (sym c.up_member.ensures)

pub returns-in_err-bucket_asks : goal.returns-in_err-bucket_asks
returns-in_err-bucket_asks c =
    let p = err_from_is_err_and c.from_residual.result c.from_residual.ensures.1 in
    rw (p.1, p.2) (refuses_there (bucket_asks (decode (words c.args.store.now)) c.args.bucket) _ _ c.in_err-bucket_asks.ensures)

pub agreed-agreed-requires : goal.agreed-agreed-requires
agreed-agreed-requires c =
    (c.requires, (bucket_yes c.args.settings c.args.store.now c.requires c.args.bucket (sym c.in_ok-bucket_asks.ensures)).inside)

pub returns-then-up_member : goal.returns-then-up_member
returns-then-up_member c =
    sym (later (goal.at.returns-then-up_member c).After-up_member ∙ first_yes 6 _ c.if-up_member.true ∙ sym c.fetched_asks.ensures)

pub returns-else-up_member : goal.returns-else-up_member
returns-else-up_member c = sym (later (goal.at.returns-else-up_member c).After-up_member ∙ first_stop 6 _ c.if-up_member.false)
