-- What code that prints an array does.
use Rattle.std.specs.Prelude.{◌≡◌, ℕ, ◌+◌, ◌*◌, ◌<◌, ◌≤◌, List, [], ◌∷◌, ◌++◌, length, Option, Some, None, Ok, replicate, sum_by, ℤ, pos}
use Rattle.aplc_scalar.specs.declared.kind.Kind.{Kind}
use Rattle.aplc_scalar.specs.declared.kind.Kind.TheVariants.{Num, Char}
use Rattle.aplc_arr.specs.Arrays.{Array, IsArray, IsIndexOf, at, product, rank}
use Rattle.aplc_arr.specs.Display.{shown}
use Rattle.aplc_cprof.specs.declared.syntax.Int.{Int}
use Rattle.aplc_cprof.specs.declared.syntax.Op.TheVariants as op
use Rattle.aplc_cprof.specs.declared.syntax.CExpr.{CExpr}
use Rattle.aplc_cprof.specs.declared.syntax.CExpr.TheVariants as expr
use Rattle.aplc_cprof.specs.declared.syntax.CStmt.{CStmt}
use Rattle.aplc_cprof.specs.Blocks.{Blocks}
use Rattle.aplc_cprof.specs.WellFormed.{Scope}
use Rattle.aplc_cprof.specs.Machine.{State, Code, cells_of, held}
use Rattle.aplc_cprof.specs.Frames.{Stays, Unnamed, Hold}
use Rattle.aplc_cprof.specs.Emitted.{Grown, IsFormed}
use Rattle.aplc_cprof.proofs.Paths.{Does}
use Rattle.aplc_collect.specs.Elements.{Test, Steps}
use Rattle.aplc_quad.specs.declared.printing.Columns.{Columns}
use Rattle.aplc_quad.specs.declared.printing.Columns.TheVariants.{Characters, Numbers}
use Rattle.aplc_quad.specs.Ranges.{column_steps}
use Rattle.aplc_quad.specs.Printed.{NoFault, Puts, last_length, nest_steps}

-- Code stands in this state for the array, and takes at most k steps for each element.
pub record StandsFor (test : Test) (steps : Steps) (tables : List (List ℤ)) (s : State) (a : Array) (k : ℕ) : Type 0 where
  pub takes : steps tables s ≤ k
  pub items : (is : List ℕ) → IsIndexOf a.shape is → test tables s is ≡ Some (Ok (at a is))

-- the most steps of printing an array of this shape, with k for each element
abbrev pub show_steps : List ℕ → ℕ → ℕ
show_steps ns k = product ns * (2 * k + 11 * length ns + 11) + 3

-- how elements are printed that have no widths
abbrev pub plain_columns : Kind → Columns
plain_columns Num = Numbers
plain_columns Char = Characters

-- A scalar or a vector is printed. All but the output stays.
abbrev pub LineShows : Test → Steps → List Int → Kind → Code → ℕ → ℕ → List CStmt → Type 0
LineShows test steps lengths kind c n m code =
    (s : State) (a : Array) (k : ℕ) → IsArray a → a.kind ≡ kind → Hold s lengths a.shape → StandsFor test steps c.tables s a k → Puts c n m (product a.shape * (k + 6) + 3) code s (shown a)

-- ---- Characters

-- whether there is an element: no length is 0
abbrev pub some_element : List Int → CExpr
some_element [] = expr.Lit (pos 1)
some_element (x ∷ xs) = expr.Bin op.And (expr.Bin op.Greater (expr.Var x) (expr.Lit (pos 0))) (some_element xs)

-- An array of characters is printed, of rank 2 or more. All but the output stays.
abbrev pub CharactersShow : Test → Steps → List Int → Code → ℕ → ℕ → List CStmt → Type 0
CharactersShow test steps lengths c n m code =
    (s : State) (a : Array) (k : ℕ) → IsArray a → a.kind ≡ Char → 2 ≤ rank a → Hold s lengths a.shape → StandsFor test steps c.tables s a k → Puts c n m (show_steps a.shape k) code s (shown a)

-- ---- Any rank

-- the output is other, and there are buffers behind the others
abbrev pub with_more : List ℕ → List (Option (List ℤ)) → State → State
with_more out more s = record s { output = out; heap = s.heap ++ more }

-- all but that is as it was, and no more cells are held in them than that
pub record Showing (n m size : ℕ) (s t : State) : Type 0 where
  pub out : List ℕ
  pub more : List (Option (List ℤ))
  pub stays : Stays n m (with_more out more s) t
  pub held_more : sum_by cells_of more ≤ size

-- the text was written, and all else is as it was but for buffers that were freed
pub record Shown (n m : ℕ) (text : List ℕ) (s t : State) : Type 0 where
  pub freed : ℕ
  pub stays : Stays n m (with_more (s.output ++ text) (replicate freed None) s) t
  pub as_many : held t ≡ held s

-- the most steps of printing numbers of rank 2 or more, where there are any
abbrev pub matrix_steps : List ℕ → ℕ → ℕ
matrix_steps ns k = 1 + ((last_length ns * (column_steps ns k + 2) + 2) + ((1 + nest_steps ns k) + 1))

-- An array of numbers is printed, of rank 2 or more, which has elements.
abbrev pub MatrixShows : Test → Steps → Scope → List Int → Code → ℕ → ℕ → List CStmt → Type 0
MatrixShows test steps g lengths c n m code =
    (s : State) (a : Array) (k : ℕ) → IsArray a → a.kind ≡ Num → 2 ≤ rank a → 0 < product a.shape → Hold s lengths a.shape → StandsFor test steps c.tables s a k → Unnamed g (length s.heap) s → Does c (Showing n m (last_length a.shape) s) (matrix_steps a.shape k) code s (Shown n m (shown a) s) NoFault

-- the same, whether it has elements or none
abbrev pub NumbersShow : Test → Steps → Scope → List Int → Code → ℕ → ℕ → List CStmt → Type 0
NumbersShow test steps g lengths c n m code =
    (s : State) (a : Array) (k : ℕ) → IsArray a → a.kind ≡ Num → 2 ≤ rank a → Hold s lengths a.shape → StandsFor test steps c.tables s a k → Unnamed g (length s.heap) s → Does c (Showing n m (last_length a.shape) s) (show_steps a.shape k) code s (Shown n m (shown a) s) NoFault

-- Code was added that prints the array of this kind and of the lengths in these variables for which code stands, from every
-- state in which no element faults. It holds as many more cells on the way as the last axis is long, and none at the end.
pub record Shows (test : Test) (steps : Steps) (g : Scope) (depth : ℕ) (old new : Blocks) (kind : Kind) (lengths : List Int) : Type 0 where
  pub code : List CStmt
  pub grown : Grown code old new
  pub formed : IsFormed g lengths [] new (3 + depth + length lengths) code
  pub runs : (c : Code) (s : State) (a : Array) (k : ℕ) → IsArray a → a.kind ≡ kind → Hold s lengths a.shape → StandsFor test steps c.tables s a k → Unnamed g (length s.heap) s → Does c (Showing old.ints old.bufs (last_length a.shape) s) (show_steps a.shape k) code s (Shown old.ints old.bufs (shown a) s) NoFault
