use Rattle.std.proofs.Common.{append_assoc}
use Rattle.aplc_syntax.proofs.PlainForms.{tree_node, tree_Index, tree_Assign, tree_AssignAt, tree_Call}
use Rattle.aplc_names.proofs.outline.+nodes.Goals as goal

pub put_node-returns-in_ok-put_node-in-Index : goal.put_node-returns-in_ok-put_node-in-Index
put_node-returns-in_ok-put_node-in-Index t c = simp (tree_node, c.in-Index.is, tree_Index) (simp (c.as_slice.ensures, c.in_ok-put_node-in-Index.ensures, c.get-in-Index.ensures, append_assoc) at c.put_nodes.ensures)

pub put_node-returns-in_ok-put-in-Assign : goal.put_node-returns-in_ok-put-in-Assign
put_node-returns-in_ok-put-in-Assign t c = simp (tree_node, c.in-Assign.is, tree_Assign) (simp (c.get-in-Assign.ensures, c.in_ok-put-in-Assign.ensures, append_assoc) at c.put_node-in-Assign.ensures)

pub put_node-returns-in_ok-put_nodes-in-AssignAt : goal.put_node-returns-in_ok-put_nodes-in-AssignAt
put_node-returns-in_ok-put_nodes-in-AssignAt t c = simp (tree_node, c.in-AssignAt.is, tree_AssignAt) (simp (c.get-in-AssignAt.ensures, c.in_ok-put_nodes-in-AssignAt.ensures, c.as_slice-in-AssignAt.ensures, c.in_ok-put-in-AssignAt.ensures, append_assoc) at c.put_node-in-AssignAt.ensures)

pub put_node-returns-in_ok-put_optional-in-Call : goal.put_node-returns-in_ok-put_optional-in-Call
put_node-returns-in_ok-put_optional-in-Call t c = simp (tree_node, c.in-Call.is, tree_Call) (simp (c.in_ok-put_optional-in-Call.ensures, c.in_ok-put-in-Call.ensures, append_assoc) at c.put_optional-in-Call.ensures)
