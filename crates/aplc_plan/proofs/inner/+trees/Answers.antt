use Rattle.std.proofs.Common.{append_assoc}
use Rattle.aplc_core.proofs.TermForms.{term_Index}
use Rattle.aplc_plan.proofs.inner.+trees.Goals as goal

pub put_tree-returns-in_ok-put_tree-in-Index : goal.put_tree-returns-in_ok-put_tree-in-Index
put_tree-returns-in_ok-put_tree-in-Index t c = simp (c.in-Index.is, term_Index) (simp (c.as_slice.ensures, c.in_ok-put_tree-in-Index.ensures, c.get-in-Index.ensures, c.get-in-Index-2.ensures, c.in_ok-push-in-Index.ensures.items, append_assoc) at c.put_entries.ensures)
