use mathlib.Core.Path.{sym, ◌∙◌}
use Prim.Native.Nat.{◌*◌}
use native.Mathlib.Omega.{arith}
use Rattle.lists.proofs.Tests.{both, no_first, no_second, yes_first}
use Rattle.row_checks.specs.declared.rows.Whose.TheVariants.{Bucket}
use Rattle.row_checks.specs.Rows.{key_below}
use Rattle.row_checks.proofs.RowLaws.{table_over}
use Rattle.part_checks.proofs.CopyLaws.{copies_lent, disk_bad, disk_same, disk_other, disk_alone}
use Rattle.part_checks.proofs.copies.copies_good.Goals as goal

pub returns-then-settings-read : goal.returns-then-settings-read
returns-then-settings-read c =
    let a = c.args in
    let e = copies_lent a.settings (key_below a.bounds.now) a.up a.bucket (8 * c.copy_words-half.result)
    a.copies.now c.requires.size
    (omega (arith, c.copy_words-half.ensures)) in
    sym (e ∙ no_first _ _ (table_over a.settings (key_below a.bounds.now) (Bucket a.bucket) a.settings.entries _ c.read.result c.read.ensures c.if-settings-read.true))

pub returns-then-settings-read-2 : goal.returns-then-settings-read-2
returns-then-settings-read-2 c =
    let a = c.args in
    let e = copies_lent a.settings (key_below a.bounds.now) a.up a.bucket (8 * c.copy_words-half.result) a.copies.now c.requires.size
    (omega (arith, c.copy_words-half.ensures)) in
    sym (e ∙ no_second _ _ (disk_bad a.settings _ a.bucket a.up _ _ (table_over a.settings (key_below a.bounds.now) (Bucket a.bucket) a.settings.entries _ c.read-2.result c.read-2.ensures
    c.if-settings-read-2.true)))

pub returns-then-not-memory_good : goal.returns-then-not-memory_good
returns-then-not-memory_good c =
    let a = c.args in
    let e = copies_lent a.settings (key_below a.bounds.now) a.up a.bucket (8 * c.copy_words-half.result) a.copies.now c.requires.size
    (omega (arith, c.copy_words-half.ensures)) in
    sym (e ∙ no_first _ _ (sym c.memory_good.ensures ∙ c.if-not-memory_good.true))

pub returns-then-found : goal.returns-then-found
returns-then-found c =
    let a = c.args in
    let e = copies_lent a.settings (key_below a.bounds.now) a.up a.bucket (8 * c.copy_words-half.result) a.copies.now c.requires.size
    (omega (arith, c.copy_words-half.ensures)) in
    let passed = sym c.memory_good.ensures ∙ c.if-not-memory_good.false in
    c.if-found.true ∙ sym (e ∙ both _ _ passed (disk_same a.settings _ a.bucket a.up _ _ passed (sym c.compared-found.ensures.saved_value ∙ c.if-found.true)))

pub returns-then-up : goal.returns-then-up
returns-then-up c =
    let a = c.args in
    let e = copies_lent a.settings (key_below a.bounds.now) a.up a.bucket (8 * c.copy_words-half.result) a.copies.now c.requires.size
    (omega (arith, c.copy_words-half.ensures)) in
    let passed = sym c.memory_good.ensures ∙ c.if-not-memory_good.false in
    c.table_good.ensures ∙ sym (e ∙ yes_first _ _ passed ∙ disk_alone a.settings _ a.bucket a.up _ _ c.if-up.true)

pub returns-else-up : goal.returns-else-up
returns-else-up c =
    let a = c.args in
    let e = copies_lent a.settings (key_below a.bounds.now) a.up a.bucket (8 * c.copy_words-half.result) a.copies.now c.requires.size
    (omega (arith, c.copy_words-half.ensures)) in
    let passed = sym c.memory_good.ensures ∙ c.if-not-memory_good.false in
    c.if-up.false ∙ sym (e ∙ no_second _ _ (disk_other a.settings _ a.bucket a.up _ _ (sym c.compared-found.ensures.saved_value
    ∙ c.if-found.false) c.if-up.false))
