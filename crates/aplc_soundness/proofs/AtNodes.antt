-- The law of facts at single nodes: what a whole run gives is held in each part of it, and a node's own value comes last.
use Rattle.std.proofs.Common.{◌≡◌, refl, subst, ℕ, ℤ, List, [], ◌∷◌, ◌++◌, Option, Some, None, Ok, Err}
use Rattle.std.specs.Prelude.{Result}
use Rattle.std.proofs.lemmas.List.Elements.{recursion_from_All}
use Rattle.aplc_scalar.specs.declared.kind.FaultKind.{FaultKind}
use Rattle.aplc_scalar.specs.declared.kind.Kind.{Kind}
use Rattle.aplc_scalar.specs.declared.kind.Kind.TheVariants as k
use Rattle.aplc_scalar.specs.Input.{InputLine, Line, Unread, input_line, number_line}
use Rattle.aplc_syntax.specs.PlainTrees.{Tree, Numbers, Text, Name, TextInput, NumsInput, Mono, Dyad, Index, Assign, AssignAt, Show, Call, id_of}
use Rattle.aplc_arr.specs.Arrays.{Array}
use Rattle.aplc_arr.specs.Delayed.{Delayed, Prepared, cells_of}
use Rattle.aplc_arr.specs.Indexing.{indexed, changed}
use Rattle.aplc_names.specs.Primitives.{mono_of, dyad_of}
use Rattle.aplc_names.specs.States.{Giving, State, Outcome, Gives, Faulted, Going, and_then, final}
use Rattle.aplc_names.specs.Eager.{Context, Use, passed, stored, displayed, filled, made, there, read_line, change, change_there, called, value, values, argument, value_of_name}
use Rattle.aplc_infer.specs.declared.cell.Cell.TheVariants as cell
use Rattle.aplc_infer.specs.Seeing.{Family}
use Rattle.aplc_soundness.specs.Holding.{Holds}
use Rattle.aplc_soundness.specs.FactLaws.{AreHeld}
use Rattle.aplc_soundness.proofs.Held.{every_parts}
use Rattle.aplc_soundness.proofs.HeldNames.{AreGiven}
use Rattle.aplc_soundness.proofs.Comes.{Always}

-- ---- A node's own value comes last

abbrev pub EndsWith : ℕ → Outcome Array → Type 0
EndsWith i (Gives v s) = (xs : List Giving) × (s.world.given ≡ xs ++ record { node = i; value = v } ∷ [])
EndsWith i (Faulted e s) = Unit {0}
EndsWith i (Going s) = Unit {0}

ends_then : {A : Type 0} (i : ℕ) (o : Outcome A) (next : A → State → Outcome Array) → ((v : A) (t : State) → EndsWith i (next v t)) → EndsWith i (and_then o next)
ends_then i (Gives v t) next q = q v t
ends_then i (Faulted e t) next q = tt
ends_then i (Going t) next q = tt

ends_filled : (c : Context) (i n : ℕ) (d : Delayed) (r : Result (List ℤ) FaultKind) (s : State) → EndsWith i (filled c i n d r s)
ends_filled c i n d (Ok zs) s = (s.world.given, refl)
ends_filled c i n d (Err e) s = tt

ends_made : (c : Context) (i : ℕ) (u : Use) (f g : List ℕ → ℕ) (d : Prepared) (s : State) → EndsWith i (made c i u f g d s)
ends_made c i u f g (Ok d) s = ends_filled c i _ d (cells_of d) _
ends_made c i u f g (Err e) s = tt

ends_there : (c : Context) (i : ℕ) (u : Use) (v : Option Array) (s : State) → EndsWith i (there c i u v s)
ends_there c i u None s = tt
ends_there c i u (Some v) s = (s.world.given, refl)

ends_line : (c : Context) (i : ℕ) (u : Use) (kind : Kind) (x : InputLine) (s : State) → EndsWith i (read_line c i u kind x s)
ends_line c i u kind (Unread e) s = tt
ends_line c i u kind (Line zs rest) s = (s.world.given, refl)

ends_change : (c : Context) (i : ℕ) (u : Use) (n : ℕ) (vs : List (Option Array)) (v old : Array) (q : Result Array FaultKind) (s : State) → EndsWith i (change c i u n vs v old q s)
ends_change c i u n vs v old (Err e) s = tt
ends_change c i u n vs v old (Ok z) s = (_, refl)

ends_change_there : (c : Context) (i : ℕ) (u : Use) (n : ℕ) (vs : List (Option Array)) (v : Array) (old : Option Array) (s : State) → EndsWith i (change_there c i u n vs v old s)
ends_change_there c i u n vs v None s = tt
ends_change_there c i u n vs v (Some old) s = ends_change c i u n vs v old (changed c.origin old vs v) s

pub ends_value : (c : Context) (t : Tree) (u : Use) (s : State) → EndsWith (id_of t) (value c t u s)
ends_value c (Numbers i p zs) u s = (s.world.given, refl)
ends_value c (Text i p cs) u s = (s.world.given, refl)
ends_value c (Name i p n) u s = ends_there c i u (value_of_name (c.scope n) n s.world) s
ends_value c (TextInput i p) u s = ends_line c i u k.Char (input_line s.world.input) s
ends_value c (NumsInput i p) u s = ends_line c i u k.Num (number_line s.world.input) s
ends_value c (Mono i p f b) u s = ends_then i (value c b passed s) _ (λ y t. ends_made c i u _ _ (mono_of c.origin f y) t)
ends_value c (Dyad i p f a b) u s = ends_then i (value c b passed s) _ (λ y t. ends_then i (value c a passed t) _ (λ x w. ends_made c i u _ _ (dyad_of c.origin f x y) w))
ends_value c (Index i p a xs) u s = ends_then i (values c xs s) _ (λ js t. ends_then i (value c a passed t) _ (λ x w. ends_made c i u _ _ (indexed c.origin x js) w))
ends_value c (Assign i p n a) u s = ends_then i (value c a stored s) _ (λ v t. (_, refl))
ends_value c (AssignAt i p n xs a) u s = ends_then i (value c a passed s) _ (λ v t. ends_then i (values c xs t) _ (λ js w. ends_change_there c i u n js v (value_of_name (c.scope n) n w.world) w))
ends_value c (Show i p a) u s = ends_then i (value c a displayed s) _ (λ v t. (_, refl))
ends_value c (Call i p n a b) u s = ends_then i (argument c b s) _ (λ y t. ends_then i (argument c a t) _ (λ x w. ends_then i (called c n a b x y w) _ (λ r q. ends_there c i u r q)))

-- ---- The law at each moment

pub given_held : (g : Family) (xs : List Giving) → AreHeld g xs → AreGiven g xs
given_held g xs h = recursion_from_All (λ (x : Giving). Holds (g (cell.Node x.node)) x.value) xs h

-- what is held with more behind it
pub held_before : (g : Family) (xs ys more : List Giving) → ys ≡ xs ++ more → AreGiven g ys → AreGiven g xs
held_before g xs ys more e h = (every_parts (λ (x : Giving). Holds (g (cell.Node x.node)) x.value) xs more (subst (AreGiven g) e h)).0

-- and so at the end of a first part, since what nodes were given stays
pub held_part : {A B : Type 0} (g : Family) (o : Outcome A) (next : A → State → Outcome B) → ((v : A) (t : State) → (more : List Giving) × ((final (next v t)).world.given ≡ t.world.given ++ more)) → AreGiven g (final (and_then o next)).world.given → AreGiven g (final o).world.given
held_part g (Gives v t) next grows h = held_before g t.world.given _ (grows v t).0 (grows v t).1 h
held_part g (Faulted e t) next grows h = h
held_part g (Going t) next grows h = h

held_last : (g : Family) (i : ℕ) (o : Outcome Array) → EndsWith i o → AreGiven g (final o).world.given → Always (Holds (g (cell.Node i))) o
held_last g i (Gives v s) h q = (every_parts (λ (x : Giving). Holds (g (cell.Node x.node)) x.value) h.0 (record { node = i; value = v } ∷ []) (subst (AreGiven g) h.1 q)).1.0
held_last g i (Faulted e s) h q = tt
held_last g i (Going s) h q = tt

-- where all that was given is held, the value of a node is one of which its fact holds
pub node_held : (g : Family) (c : Context) (t : Tree) (u : Use) (s : State) → AreGiven g (final (value c t u s)).world.given → Always (Holds (g (cell.Node (id_of t)))) (value c t u s)
node_held g c t u s h = held_last g (id_of t) (value c t u s) (ends_value c t u s) h
