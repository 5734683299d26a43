use Rattle.mend.proofs.effect.mend_named.Goals as goal

pub mend_table-requires : goal.mend_table-requires
mend_table-requires c = (c.requires.0 _ c.in-Some.is, c.requires.1)
