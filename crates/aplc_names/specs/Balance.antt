-- The account at the end of statements: the sum of the counts of all names' values and of what callers hold.
use Rattle.std.specs.Prelude.{◌≡◌, ℕ, zero, suc, ◌+◌, List, [], ◌∷◌, length, Option, Some, slice_get, nat_eq, if◌then◌else◌}
use Rattle.aplc_arr.specs.Arrays.{Array}
use Rattle.aplc_syntax.specs.declared.tree.Program.{Program}
use Rattle.aplc_syntax.specs.PlainTrees.{Tree, Numbers, Text, Name, TextInput, NumsInput, Mono, Dyad, Index, Assign, AssignAt, Show, Call, Trees, no_more, left_out, and_tree, Argument, absent, given}
use Rattle.aplc_names.specs.declared.scope.Scope.{Scope}
use Rattle.aplc_names.specs.declared.scope.Scope.TheVariants as scope
use Rattle.aplc_names.specs.PlainPrograms.{Action, nothing, quiet, perform, display, branch, Routine, PlainProgram, plain, names_of_header}
use Rattle.aplc_names.specs.Programs.{IsClean, IsGrammatical}
use Rattle.aplc_names.specs.States.{Values, State, Marking, Outcome, Gives, Faulted, Going}
use Rattle.aplc_names.specs.Eager.{statement}
use Rattle.aplc_names.specs.Runs.{count_of, entered, context, run, initial}

-- ---- Balance

-- a caller that waits: the names of its frame, their values, and what its statement holds
pub record Waiting : Type 0 where
  pub names : List ℕ
  pub values : Values
  pub held : ℕ

abbrev pub count_of_waiting : List Waiting → ℕ
count_of_waiting [] = 0
count_of_waiting (c ∷ cs) = count_of c.names c.values + c.held + count_of_waiting cs

-- the account is the sum of the counts of the values of all names, of the global ones gs, of those of the frame and of
-- the callers' frames, and of what this statement and the callers' statements hold
abbrev pub IsBalanced : List ℕ → List ℕ → List Waiting → State → Type 0
IsBalanced gs ns callers s = s.account.now ≡ count_of gs s.world.globals + count_of ns s.world.locals + s.account.held + count_of_waiting callers

-- ---- Names that are assigned

-- how often a name stands there
abbrev pub times : ℕ → List ℕ → ℕ
times n [] = 0
times n (m ∷ ms) = (if nat_eq m n then 1 else 0) + times n ms

-- the numbers below n, each once
abbrev pub numbers_below : ℕ → List ℕ
numbers_below zero = []
numbers_below (suc n) = n ∷ numbers_below n

-- it is a local name that stands in the header once, or a global one that stands among gs once
abbrev pub IsListed : List ℕ → List ℕ → Scope → ℕ → Type 0
IsListed gs ns scope.Local n = times n ns ≡ 1
IsListed gs ns scope.Global n = times n gs ≡ 1
IsListed gs ns (scope.Label z) n = ⊥
IsListed gs ns (scope.Function j) n = ⊥

-- so is each name that a tree assigns
abbrev mutual
  pub AssignsListed : List ℕ → List ℕ → (ℕ → Scope) → Tree → Type 0
  AssignsListed gs ns c (Numbers i p xs) = Unit {0}
  AssignsListed gs ns c (Text i p cs) = Unit {0}
  AssignsListed gs ns c (Name i p n) = Unit {0}
  AssignsListed gs ns c (TextInput i p) = Unit {0}
  AssignsListed gs ns c (NumsInput i p) = Unit {0}
  AssignsListed gs ns c (Mono i p f b) = AssignsListed gs ns c b
  AssignsListed gs ns c (Dyad i p f a b) = AssignsListed gs ns c a × AssignsListed gs ns c b
  AssignsListed gs ns c (Index i p a xs) = AssignsListed gs ns c a × EntriesListed gs ns c xs
  AssignsListed gs ns c (Assign i p n a) = IsListed gs ns (c n) n × AssignsListed gs ns c a
  AssignsListed gs ns c (AssignAt i p n xs a) = IsListed gs ns (c n) n × EntriesListed gs ns c xs × AssignsListed gs ns c a
  AssignsListed gs ns c (Show i p a) = AssignsListed gs ns c a
  AssignsListed gs ns c (Call i p n a b) = ArgumentListed gs ns c a × ArgumentListed gs ns c b

  pub EntriesListed : List ℕ → List ℕ → (ℕ → Scope) → Trees → Type 0
  EntriesListed gs ns c no_more = Unit {0}
  EntriesListed gs ns c (left_out xs) = EntriesListed gs ns c xs
  EntriesListed gs ns c (and_tree t xs) = AssignsListed gs ns c t × EntriesListed gs ns c xs

  pub ArgumentListed : List ℕ → List ℕ → (ℕ → Scope) → Argument → Type 0
  ArgumentListed gs ns c absent = Unit {0}
  ArgumentListed gs ns c (given t) = AssignsListed gs ns c t

abbrev pub ActionListed : List ℕ → List ℕ → (ℕ → Scope) → Action → Type 0
ActionListed gs ns c nothing = Unit {0}
ActionListed gs ns c (quiet t) = AssignsListed gs ns c t
ActionListed gs ns c (perform i p n a b) = ArgumentListed gs ns c a × ArgumentListed gs ns c b
ActionListed gs ns c (display t) = AssignsListed gs ns c t
ActionListed gs ns c (branch p t) = AssignsListed gs ns c t

-- so is each name that a program assigns
abbrev pub IsAssigningListed : List ℕ → PlainProgram → Type 0
IsAssigningListed gs p =
    (i j : ℕ) (f : Routine) (x : Action) → slice_get p.routines i ≡ Some f → slice_get f.lines j ≡ Some x → ActionListed gs (names_of_header f) f.scope x

-- A program of the grammar that nothing refuses does so, where all its names are listed.
abbrev pub AssignsItsNames : Program → Type 0
AssignsItsNames p = IsGrammatical p → IsClean p → IsAssigningListed (numbers_below (length p.names)) (plain p)

-- ---- The law

-- a statement that begins balanced and holds nothing ends so
abbrev pub EndsBalanced : List ℕ → List ℕ → List Waiting → Outcome (Option ℕ) → Type 0
EndsBalanced gs ns callers (Gives to t) = IsBalanced gs ns callers t × (t.account.held ≡ 0)
EndsBalanced gs ns callers (Faulted k t) = Unit {0}
EndsBalanced gs ns callers (Going t) = Unit {0}

-- A run begins balanced; so does a function that is called, where its caller waits; and from there on each statement,
-- whatever calls it makes, leaves the account balanced at its end, when it holds nothing more.
pub record StaysBalanced (gs : List ℕ) (p : PlainProgram) : Type 0 where
  pub begins : (f : Routine) (input : List ℕ) (n : ℕ) → IsBalanced gs (names_of_header f) [] (initial f input n)
  pub enters : (f : Routine) (x y : Option Array) (s : State) (ns : List ℕ) (callers : List Waiting) → IsBalanced gs ns callers s → IsBalanced gs (names_of_header f) (record { names = ns; values = s.world.locals; held = s.account.held } ∷ callers) (entered f x y s)
  pub ends : (m : Marking) (k i j : ℕ) (f : Routine) (x : Action) (s : State) (callers : List Waiting) → slice_get p.routines i ≡ Some f → slice_get f.lines j ≡ Some x → IsBalanced gs (names_of_header f) callers s → s.account.held ≡ 0 → EndsBalanced gs (names_of_header f) callers (statement (context p m (run p m k) f) x s)

-- So it is in each program of the grammar that nothing refuses, where all its names are listed.
abbrev pub BalancesItsNames : Program → Type 0
BalancesItsNames p = IsGrammatical p → IsClean p → StaysBalanced (numbers_below (length p.names)) (plain p)
