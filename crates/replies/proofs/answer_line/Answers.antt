use mathlib.Core.Path.{◌≡◌, sym, ap, ◌∙◌}
use native.Mathlib.Omega.{arith}
use lib.ListN.{length, take, drop, length-append}
use lib.Seq.{take_at, length-take-le}
use Rattle.lists.proofs.Runs.{below_of}
use Rattle.rules.specs.Limits.{max_size}
use Rattle.replies.proofs.Outcomes.{zeros_length}
use Rattle.replies.proofs.Parsed.{answered_line, answered_none}
use Rattle.replies.proofs.answer_line.Goals as goal

pub slice_bounds-parse-end : goal.slice_bounds-parse-end
slice_bounds-parse-end c =
    let block_size : length (take c.settings-settings.result.size c.zero_block-data.result) ≡ c.settings-settings.result.size = length-take-le _ c.zero_block-data.result
    (omega (arith, c.settings-settings.ensures.limits.size_to, ap length c.zero_block-data.ensures, zeros_length max_size)) in
    sym (block_size)

pub slice_bounds-data-end-in-Some : goal.slice_bounds-data-end-in-Some
slice_bounds-data-end-in-Some c =
    let block_size : length (take c.settings-settings.result.size c.zero_block-data.result) ≡ c.settings-settings.result.size = length-take-le _ c.zero_block-data.result
    (omega (arith, c.settings-settings.ensures.limits.size_to, ap length c.zero_block-data.ensures, zeros_length max_size)) in
    let data_size : length c.parse.new.data ≡ c.settings-settings.result.size = c.parse.auto.data ∙ block_size in
    omega (
      arith,
      data_size,
      length-append c.parse.new.data
          (drop c.settings-settings.result.size c.zero_block-data.result),
    )

pub slice_bounds-answer_event-end : goal.slice_bounds-answer_event-end
slice_bounds-answer_event-end c =
    let block_size : length (take c.settings-settings.result.size c.zero_block-data.result) ≡ c.settings-settings.result.size = length-take-le _ c.zero_block-data.result
    (omega (arith, c.settings-settings.ensures.limits.size_to, ap length c.zero_block-data.ensures, zeros_length max_size)) in
    let data_size : length c.parse.new.data ≡ c.settings-settings.result.size = c.parse.auto.data ∙ block_size in
    sym (ap length (take_at c.parse.new.data _ c.settings-settings.result.size (data_size)) ∙ data_size)

pub returns-in-Some : goal.returns-in-Some
returns-in-Some c =
    let block_size : length (take c.settings-settings.result.size c.zero_block-data.result) ≡ c.settings-settings.result.size = length-take-le _ c.zero_block-data.result
    (omega (arith, c.settings-settings.ensures.limits.size_to, ap length c.zero_block-data.ensures, zeros_length max_size)) in
    let data_size : length c.parse.new.data ≡ c.settings-settings.result.size = c.parse.auto.data ∙ block_size in
    let a = c.args in
    let z = c.settings-settings in
    let e = c.answer_event in
    answered_line z.result a.store.now a.line.now (take z.result.size c.zero_block-data.result) c.parse.new.data
    z.ensures c.parse.result (block_size) c.parse.ensures.0
    c.parse.ensures.1 a.number a.area.now e.result _ _ c.in-Some.event _
    (take_at c.parse.new.data _ z.result.size (data_size)) c.in-Some.is e.ensures

pub returns-in-None : goal.returns-in-None
returns-in-None c =
    let block_size : length (take c.settings-settings.result.size c.zero_block-data.result) ≡ c.settings-settings.result.size = length-take-le _ c.zero_block-data.result
    (omega (arith, c.settings-settings.ensures.limits.size_to, ap length c.zero_block-data.ensures, zeros_length max_size)) in
    let a = c.args in
    let z = c.settings-settings in
    let w = c.write_answer in
    answered_none z.result a.store.now a.line.now (take z.result.size c.zero_block-data.result) c.parse.new.data
    z.ensures c.parse.result (block_size) c.parse.ensures.0
    c.parse.ensures.1 a.number a.area.now w.result _ a.store.now (below_of 256 _ (λ i. omega (arith, c.slice_known-1.given i)))
    c.in-None.is w.ensures.0 w.ensures.1
