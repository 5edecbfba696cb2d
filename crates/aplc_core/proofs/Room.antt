-- For statements of at most 256 nodes, slots that are counted up to the last of 32 bits are counted as numbers are.
use Rattle.std.proofs.Common.{◌≡◌, ◌∙◌, ap, refl, ℕ, ◌+◌, ◌≤◌, map, length, length-append, List, [], ◌∷◌, ◌++◌, arith}
use Rattle.std.proofs.Math.Nat.{min-eq_left}
use Rattle.std.proofs.lemmas.List.Elements.{All-map, All-weaker}
use Rattle.std.specs.Prelude.{Some, None, pos, All}
use Rattle.aplc_scalar.specs.declared.kind.Kind.TheVariants.{Num, Char}
use Rattle.aplc_syntax.specs.declared.tree.Primitive.{Primitive}
use Rattle.aplc_syntax.specs.declared.tree.Line.{Line}
use Rattle.aplc_syntax.specs.declared.tree.Function.{Function}
use Rattle.aplc_syntax.specs.declared.tree.Program.{Program}
use Rattle.aplc_syntax.specs.declared.tree.Statement.{Statement}
use Rattle.aplc_syntax.specs.declared.tree.Statement.TheVariants as st
use Rattle.aplc_syntax.specs.PlainTrees.{Tree, Trees, Argument, absent, given, ids, trees_ids, argument_ids, tree_of}
use Rattle.aplc_syntax.specs.PlainTrees as t
use Rattle.aplc_syntax.specs.Programs.{statement_ids}
use Rattle.aplc_names.specs.PlainPrograms.{Action, nothing, quiet, perform, display, branch, nodes, quiet_of, action_of, line_action, Routine, routine_of, plain}
use Rattle.aplc_names.specs.Programs.{HasSmallStatements}
use Rattle.aplc_core.specs.PlainSteps.{Term, Literal, Read, Mono, Dyad, Index, Effect, StoreAt, Call, ReadText, ReadNums, Show, Branch}
use Rattle.aplc_core.specs.Lowering.{lowered}
use Rattle.aplc_core.specs.Passes.{Pass, Count, next_slot, next_number, no_pass, waits, all_kept, with_last, with_list, read_text, read_nums, mono, dyad, index, assign, assign_at, show, calls, performs, call, perform_call, ends, changes, pass, pass_list, pass_argument, pass_quiet, pass_action}
use Rattle.aplc_core.proofs.Weights.{weight, Agree, more_room, in_turn, stays, waits_alike, last_alike, list_alike, all_kept_alike, written_alike, arguments_alike, gives_alike, assign_alike, show_alike, assign_at_alike, ends_alike}
use Rattle.aplc_core.proofs.Lined.{steps_are_lowered}

-- ---- Trees

one_more : (i : ℕ) (xs : List ℕ) → length (i ∷ xs) ≡ 1 + length xs
one_more i xs = length-append (i ∷ []) xs

both_and_one : (i : ℕ) (xs ys : List ℕ) → length (i ∷ (xs ++ ys)) ≡ 1 + (length xs + length ys)
both_and_one i xs ys = one_more i (xs ++ ys) ∙ ap (λ (n : ℕ). 1 + n) (length-append xs ys)

module _ (up : Count) (most : ℕ) (exact : (n : ℕ) → n + 1 ≤ most → up n ≡ n + 1) where
  -- what each form does once its parts have passed
  mono_alike : (i : ℕ) (f : Primitive) → Agree most 1 (λ p. mono i f p) (λ p. mono i f p)
  mono_alike i f = last_alike most 1 (λ b. waits (Mono i f b)) (λ b. waits (Mono i f b)) (λ b. waits_alike most (Mono i f b))

  dyad_alike : (i : ℕ) (f : Primitive) → Agree most 1 (λ p. dyad i f p) (λ p. dyad i f p)
  dyad_alike i f =
      last_alike most 1 (λ a p. with_last (λ b. waits (Dyad i f a b)) p) (λ a p. with_last (λ b. waits (Dyad i f a b)) p)
      (λ a. last_alike most 1 (λ b. waits (Dyad i f a b)) (λ b. waits (Dyad i f a b)) (λ b. waits_alike most (Dyad i f a b)))

  index_alike : (i : ℕ) (js : Trees) → Agree most 1 (λ p. index i js p) (λ p. index i js p)
  index_alike i js =
      last_alike most 1 (λ a p. with_list js (λ ts. waits (Index i a ts)) p) (λ a p. with_list js (λ ts. waits (Index i a ts)) p)
      (λ a. list_alike most 1 js (λ ts. waits (Index i a ts)) (λ ts. waits (Index i a ts)) (λ ts. waits_alike most (Index i a ts)))

  call_alike : (i n : ℕ) (a b : Argument) → Agree most 1 (λ p. call up i n a b p) (λ p. call next_number i n a b p)
  call_alike i n a b =
      arguments_alike up most exact 1 a b (λ x y. calls up i n x y) (λ x y. calls next_number i n x y)
      (λ x y. gives_alike up most exact i (λ p. Call i n x y (Some p.free)))

  perform_alike : (i n : ℕ) (a b : Argument) → Agree most 0 (λ p. perform_call up i n a b p) (λ p. perform_call next_number i n a b p)
  perform_alike i n a b =
      arguments_alike up most exact 0 a b (λ x y. performs up i n x y) (λ x y. performs next_number i n x y)
      (λ x y. written_alike up most exact (Call i n x y None))

  changes_alike : (i n : ℕ) (js : Trees) → Agree most 0 (λ p. changes up i n js p) (λ p. changes next_number i n js p)
  changes_alike i n js = list_alike most 0 js (λ ts p. ends up (StoreAt i n ts) p) (λ ts p. ends next_number (StoreAt i n ts) p) (λ ts. ends_alike up most exact (StoreAt i n ts))

  -- a node without parts
  leaf_alike : (i : ℕ) (f g : Pass → Pass) → Agree most 1 f g → Agree most (length (i ∷ [])) f g
  leaf_alike i f g h = more_room most 1 (length (i ∷ [])) f g (omega (arith, one_more i [])) h

  mutual
    -- the weight grows by at most one for each node of a tree
    pub pass_alike : (x : Tree) → Agree most (length (ids x)) (λ p. pass up x p) (λ p. pass next_number x p)
    pass_alike (t.Numbers i q zs) = leaf_alike i (waits (Literal i Num zs)) (waits (Literal i Num zs)) (waits_alike most (Literal i Num zs))
    pass_alike (t.Text i q cs) = leaf_alike i (waits (Literal i Char (map pos cs))) (waits (Literal i Char (map pos cs))) (waits_alike most (Literal i Char (map pos cs)))
    pass_alike (t.Name i q n) = leaf_alike i (waits (Read i n)) (waits (Read i n)) (waits_alike most (Read i n))
    pass_alike (t.TextInput i q) = leaf_alike i (λ p. read_text up i p) (λ p. read_text next_number i p) (gives_alike up most exact i (λ p. ReadText i p.free))
    pass_alike (t.NumsInput i q) = leaf_alike i (λ p. read_nums up i p) (λ p. read_nums next_number i p) (gives_alike up most exact i (λ p. ReadNums i p.free))
    pass_alike (t.Mono i q f b) = in_turn most (length (ids b)) 1 (length (i ∷ ids b)) (λ p. pass up b p) (λ p. pass next_number b p) (λ p. mono i f p) (λ p. mono i f p) (omega (arith, one_more i (ids b))) (pass_alike b) (mono_alike i f)
    pass_alike (t.Dyad i q f a b) =
        in_turn most (length (ids b)) (length (ids a) + 1) (length (i ∷ (ids a ++ ids b))) (λ p. pass up b p) (λ p. pass next_number b p) (λ p. dyad i f (pass up a p)) (λ p. dyad i f (pass next_number a p)) (omega (arith, both_and_one i (ids a) (ids b))) (pass_alike b)
        (in_turn most (length (ids a)) 1 (length (ids a) + 1) (λ p. pass up a p) (λ p. pass next_number a p) (λ p. dyad i f p) (λ p. dyad i f p) (omega arith) (pass_alike a) (dyad_alike i f))
    pass_alike (t.Index i q a xs) =
        in_turn most (length (trees_ids xs)) (length (ids a) + 1) (length (i ∷ (ids a ++ trees_ids xs))) (λ p. pass_list up xs p) (λ p. pass_list next_number xs p) (λ p. index i xs (pass up a p)) (λ p. index i xs (pass next_number a p)) (omega (arith, both_and_one i (ids a) (trees_ids xs))) (list_passes_alike xs)
        (in_turn most (length (ids a)) 1 (length (ids a) + 1) (λ p. pass up a p) (λ p. pass next_number a p) (λ p. index i xs p) (λ p. index i xs p) (omega arith) (pass_alike a) (index_alike i xs))
    pass_alike (t.Assign i q n a) = in_turn most (length (ids a)) 1 (length (i ∷ ids a)) (λ p. pass up a p) (λ p. pass next_number a p) (λ p. assign up i n p) (λ p. assign next_number i n p) (omega (arith, one_more i (ids a))) (pass_alike a) (assign_alike up most exact i n)
    pass_alike (t.AssignAt i q n xs a) =
        in_turn most (length (ids a)) (length (trees_ids xs)) (length (i ∷ (trees_ids xs ++ ids a))) (λ p. all_kept up (pass up a p)) (λ p. all_kept next_number (pass next_number a p)) (λ p. assign_at up i n xs (pass_list up xs p)) (λ p. assign_at next_number i n xs (pass_list next_number xs p)) (omega (arith, both_and_one i (trees_ids xs) (ids a)))
        (all_kept_alike up most exact (length (ids a)) (λ p. pass up a p) (λ p. pass next_number a p) (pass_alike a))
        (in_turn most (length (trees_ids xs)) 0 (length (trees_ids xs)) (λ p. pass_list up xs p) (λ p. pass_list next_number xs p) (λ p. assign_at up i n xs p) (λ p. assign_at next_number i n xs p) (omega arith) (list_passes_alike xs) (assign_at_alike up most exact i n xs))
    pass_alike (t.Show i q a) = in_turn most (length (ids a)) 0 (length (i ∷ ids a)) (λ p. pass up a p) (λ p. pass next_number a p) (λ p. show up i p) (λ p. show next_number i p) (omega (arith, one_more i (ids a))) (pass_alike a) (show_alike up most exact i)
    pass_alike (t.Call i q n a b) =
        in_turn most (length (argument_ids b) + length (argument_ids a)) 1 (length (i ∷ (argument_ids a ++ argument_ids b))) (λ p. pass_argument up a (pass_argument up b p)) (λ p. pass_argument next_number a (pass_argument next_number b p)) (λ p. call up i n a b p) (λ p. call next_number i n a b p) (omega (arith, both_and_one i (argument_ids a) (argument_ids b)))
        (in_turn most (length (argument_ids b)) (length (argument_ids a)) (length (argument_ids b) + length (argument_ids a)) (λ p. pass_argument up b p) (λ p. pass_argument next_number b p) (λ p. pass_argument up a p) (λ p. pass_argument next_number a p) (omega arith) (argument_passes_alike b) (argument_passes_alike a))
        (call_alike i n a b)

    list_passes_alike : (xs : Trees) → Agree most (length (trees_ids xs)) (λ p. pass_list up xs p) (λ p. pass_list next_number xs p)
    list_passes_alike t.no_more = λ p b. stays most p
    list_passes_alike (t.left_out xs) = list_passes_alike xs
    list_passes_alike (t.and_tree x xs) = in_turn most (length (trees_ids xs)) (length (ids x)) (length (ids x ++ trees_ids xs)) (λ p. pass_list up xs p) (λ p. pass_list next_number xs p) (λ p. pass up x p) (λ p. pass next_number x p) (omega (arith, length-append (ids x) (trees_ids xs))) (list_passes_alike xs) (pass_alike x)

    argument_passes_alike : (a : Argument) → Agree most (length (argument_ids a)) (λ p. pass_argument up a p) (λ p. pass_argument next_number a p)
    argument_passes_alike absent = λ p b. stays most p
    argument_passes_alike (given x) = all_kept_alike up most exact (length (ids x)) (λ p. pass up x p) (λ p. pass next_number x p) (pass_alike x)

  kept_passes_alike : (x : Tree) → Agree most (length (ids x)) (λ p. all_kept up (pass up x p)) (λ p. all_kept next_number (pass next_number x p))
  kept_passes_alike x = all_kept_alike up most exact (length (ids x)) (λ p. pass up x p) (λ p. pass next_number x p) (pass_alike x)

  -- ---- Statements

  ended_alike : (w : Term → Effect) (x : Tree) → Agree most (length (ids x)) (λ p. ends up w (pass up x p)) (λ p. ends next_number w (pass next_number x p))
  ended_alike w x = in_turn most (length (ids x)) 0 (length (ids x)) (λ p. pass up x p) (λ p. pass next_number x p) (λ p. ends up w p) (λ p. ends next_number w p) (omega arith) (pass_alike x) (ends_alike up most exact w)

  quiet_alike : (x : Tree) → Agree most (length (ids x)) (λ p. pass_quiet up x p) (λ p. pass_quiet next_number x p)
  quiet_alike (t.Assign i q n a) = pass_alike (t.Assign i q n a)
  quiet_alike (t.AssignAt i q n xs a) =
      in_turn most (length (ids a)) (length (trees_ids xs)) (length (i ∷ (trees_ids xs ++ ids a))) (λ p. pass up a p) (λ p. pass next_number a p) (λ p. changes up i n xs (pass_list up xs p)) (λ p. changes next_number i n xs (pass_list next_number xs p)) (omega (arith, both_and_one i (trees_ids xs) (ids a)))
      (pass_alike a)
      (in_turn most (length (trees_ids xs)) 0 (length (trees_ids xs)) (λ p. pass_list up xs p) (λ p. pass_list next_number xs p) (λ p. changes up i n xs p) (λ p. changes next_number i n xs p) (omega arith) (list_passes_alike xs) (changes_alike i n xs))
  quiet_alike (t.Show i q a) = more_room most (length (ids a)) (length (i ∷ ids a)) (λ p. ends up (Show (Some i)) (pass up a p)) (λ p. ends next_number (Show (Some i)) (pass next_number a p)) (omega (arith, one_more i (ids a))) (ended_alike (Show (Some i)) a)
  quiet_alike (t.Numbers i q zs) = kept_passes_alike (t.Numbers i q zs)
  quiet_alike (t.Text i q cs) = kept_passes_alike (t.Text i q cs)
  quiet_alike (t.Name i q n) = kept_passes_alike (t.Name i q n)
  quiet_alike (t.TextInput i q) = kept_passes_alike (t.TextInput i q)
  quiet_alike (t.NumsInput i q) = kept_passes_alike (t.NumsInput i q)
  quiet_alike (t.Mono i q f b) = kept_passes_alike (t.Mono i q f b)
  quiet_alike (t.Dyad i q f a b) = kept_passes_alike (t.Dyad i q f a b)
  quiet_alike (t.Index i q a xs) = kept_passes_alike (t.Index i q a xs)
  quiet_alike (t.Call i q n a b) = kept_passes_alike (t.Call i q n a b)

  pub action_alike : (x : Action) → Agree most (nodes x) (λ p. pass_action up x p) (λ p. pass_action next_number x p)
  action_alike nothing = λ p b. stays most p
  action_alike (quiet x) = quiet_alike x
  action_alike (perform i q n a b) =
      in_turn most (length (argument_ids b) + length (argument_ids a)) 0 (length (i ∷ (argument_ids a ++ argument_ids b))) (λ p. pass_argument up a (pass_argument up b p)) (λ p. pass_argument next_number a (pass_argument next_number b p)) (λ p. perform_call up i n a b p) (λ p. perform_call next_number i n a b p) (omega (arith, both_and_one i (argument_ids a) (argument_ids b)))
      (in_turn most (length (argument_ids b)) (length (argument_ids a)) (length (argument_ids b) + length (argument_ids a)) (λ p. pass_argument up b p) (λ p. pass_argument next_number b p) (λ p. pass_argument up a p) (λ p. pass_argument next_number a p) (omega arith) (argument_passes_alike b) (argument_passes_alike a))
      (perform_alike i n a b)
  action_alike (display x) = ended_alike (Show None) x
  action_alike (branch q x) = ended_alike Branch x

-- ---- Slots of 32 bits

next_slot_is : (n : ℕ) → n + 1 ≤ 4294967295 → next_slot n ≡ n + 1
next_slot_is n h = min-eq_left h

-- a tree's pass is the same where its slots have room
pub same_pass : (x : Tree) (p : Pass) → weight p + length (ids x) ≤ 4294967295 → pass next_slot x p ≡ pass next_number x p
same_pass x p h = (pass_alike next_slot 4294967295 next_slot_is x p h).same

-- statements of at most 256 nodes have room
pub same_action : (x : Action) → nodes x ≤ 256 → pass_action next_slot x no_pass ≡ pass_action next_number x no_pass
same_action x h = (action_alike next_slot 4294967295 next_slot_is x no_pass (omega (arith, h))).same

pub slots_lowered : (x : Action) → nodes x ≤ 256 → (pass_action next_slot x no_pass).steps ≡ lowered x
slots_lowered x h = ap (λ (p : Pass). p.steps) (same_action x h) ∙ steps_are_lowered x

-- ---- Lines of a program

quiet_nodes : (x : Tree) → nodes (quiet_of x) ≡ length (ids x)
quiet_nodes (t.Numbers i q zs) = refl
quiet_nodes (t.Text i q cs) = refl
quiet_nodes (t.Name i q n) = refl
quiet_nodes (t.TextInput i q) = refl
quiet_nodes (t.NumsInput i q) = refl
quiet_nodes (t.Mono i q f b) = refl
quiet_nodes (t.Dyad i q f a b) = refl
quiet_nodes (t.Index i q a xs) = refl
quiet_nodes (t.Assign i q n a) = refl
quiet_nodes (t.AssignAt i q n xs a) = refl
quiet_nodes (t.Show i q a) = refl
quiet_nodes (t.Call i q n a b) = refl

pub statement_nodes : (s : Statement) → nodes (action_of s) ≡ length (statement_ids s)
statement_nodes st.Empty = refl
statement_nodes (st.Quiet n) = quiet_nodes (tree_of n)
statement_nodes (st.Display n) = refl
statement_nodes (st.Branch p n) = refl

line_nodes : (l : Line) → length (statement_ids l.statement) ≤ 256 → nodes (line_action l) ≤ 256
line_nodes l h = omega (arith, h, statement_nodes l.statement)

-- the steps of a line of at most 256 nodes
pub line_lowered : (l : Line) → length (statement_ids l.statement) ≤ 256 → (pass_action next_slot (line_action l) no_pass).steps ≡ lowered (line_action l)
line_lowered l h = slots_lowered (line_action l) (line_nodes l h)

abbrev IsSmall : Line → Type 0
IsSmall l = length (statement_ids l.statement) ≤ 256

-- slots that are counted up to the last of 32 bits give the steps of lowering
abbrev pub HasRoom : Action → Type 0
HasRoom x = (pass_action next_slot x no_pass).steps ≡ lowered x

abbrev LinesHaveRoom : Function → Type 0
LinesHaveRoom f = All (λ (l : Line). HasRoom (line_action l)) f.lines

-- each line of a program whose statements are small
pub all_lines_lowered : (p : Program) → HasSmallStatements p → All (λ (f : Function). All (λ (l : Line). HasRoom (line_action l)) f.lines) p.functions
all_lines_lowered p h = All-weaker (λ (f : Function). All IsSmall f.lines) LinesHaveRoom (λ f g. All-weaker IsSmall (λ (l : Line). HasRoom (line_action l)) line_lowered f.lines g) p.functions h

pub plain_lines_lowered : (p : Program) → HasSmallStatements p → All (λ (r : Routine). All HasRoom r.lines) (plain p).routines
plain_lines_lowered p h =
    All-map (λ (r : Routine). All HasRoom r.lines) (routine_of p) p.functions
    (All-weaker LinesHaveRoom (λ (f : Function). All HasRoom (map line_action f.lines)) (λ f g. All-map HasRoom line_action f.lines g) p.functions (all_lines_lowered p h))
