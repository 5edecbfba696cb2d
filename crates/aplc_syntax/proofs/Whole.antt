-- Small programs, computed.
use Rattle.std.proofs.Common.{◌≡◌, ℕ, List, [], ◌∷◌, pos, neg_ℤ, refl, arith, All, Some, None, inl, inr}
use Rattle.std.proofs.lemmas.List.Elements.{All-nil, All-cons}
use Rattle.std.specs.Prelude.{codes}
use Rattle.std.specs.Char.{encode_utf8}
use Rattle.std.specs.Str.{chars}
use Rattle.aplc_scalar.specs.declared.kind.Kind.TheVariants as kind
use Rattle.aplc_scalar.specs.declared.function.ScalarFn.TheVariants as f
use Rattle.aplc_syntax.specs.declared.tree.Axis.TheVariants as ax
use Rattle.aplc_syntax.specs.declared.tree.Primitive.TheVariants as pr
use Rattle.aplc_syntax.specs.declared.tree.Form.TheVariants as v
use Rattle.aplc_syntax.specs.declared.tree.Function.{Function}
use Rattle.aplc_syntax.specs.declared.tree.Program.{Program}
use Rattle.aplc_syntax.specs.declared.tree.Statement.TheVariants as st
use Rattle.aplc_syntax.specs.declared.word.Role.TheVariants as role
use Rattle.aplc_syntax.specs.declared.word.Stroke.TheVariants as stroke
use Rattle.aplc_syntax.specs.Words.{sign}
use Rattle.aplc_syntax.specs.Grammar.{arith_fn, compare_fn, no_axis, call1, scalar2, both2, dyadic2, turn2, copies, no_number, number, numbers, variable, operand, before, between, assign, simple, paren, value, branch, perform0}
use Rattle.aplc_syntax.specs.Trees.{node, name_id}
use Rattle.aplc_syntax.specs.Layout.{Row, row, named, nothing, origin, var}
use Rattle.aplc_syntax.specs.Programs.{IsProgramOf}
use Rattle.aplc_syntax.proofs.Sources.{Piece, blank, source, tokens_of, nm, num, digit, sym, nl}

abbrev IsProgram : List Piece → Program → Type 0
IsProgram ps p = IsProgramOf (source ps) (tokens_of ps) p

none_bare : All (λ (r : Row). r.words ≡ []) []
none_bare = All-nil (λ (r : Row). r.words ≡ [])

more_bare : (p : ℕ) (rs : List Row) → All (λ (r : Row). r.words ≡ []) rs → All (λ (r : Row). r.words ≡ []) (row p [] ∷ rs)
more_bare p rs h = All-cons (λ (r : Row). r.words ≡ []) (row p []) rs refl h

abbrev life_f0 : Function
life_f0 = record {
  name = (named 0 3);
  result = None;
  left = None;
  right = None;
  locals = ((named 1 8) ∷ (named 2 10) ∷ []);
  lines =
      record { label = None; statement = st.Quiet (node 12 (v.Assign (name_id 1) (node 19 (v.Dyad pr.Shape (node 16 (v.Numbers (pos 5 ∷ pos 5 ∷ []))) (node 24 (v.Dyad pr.Take (node 22 (v.Numbers (pos 25 ∷ []))) (node 27 (v.Numbers (pos 0 ∷ pos 1 ∷ pos 0 ∷ pos 0 ∷ pos 0 ∷ pos 0 ∷ pos 0 ∷ pos 1 ∷ pos 0 ∷ pos 0 ∷ pos 1 ∷ pos 1 ∷ pos 1 ∷ []))))))))) } ∷
      record { label = None; statement = st.Quiet (node 53 (v.Assign (name_id 2) (node 57 (v.Numbers (pos 0 ∷ []))))) } ∷
      record { label = (Some (named 3 59)); statement = st.Quiet (node 61 (v.Assign (name_id 1) (node 65 (v.Call (name_id 4) None (Some (node 70 (v.Name (name_id 1)))))))) } ∷
      record { label = None; statement = st.Display (node 72 (v.Name (name_id 1))) } ∷
      record { label = None; statement = st.Quiet (node 74 (v.Assign (name_id 2) (node 79 (v.Dyad (pr.Scalar f.Add) (node 78 (v.Name (name_id 2))) (node 80 (v.Numbers (pos 1 ∷ []))))))) } ∷
      record { label = None; statement = st.Branch 82 (node 90 (v.Dyad (pr.Replicate ax.Last) (node 87 (v.Dyad (pr.Scalar f.Less) (node 86 (v.Name (name_id 2))) (node 88 (v.Numbers (pos 4 ∷ []))))) (node 91 (v.Name (name_id 3))))) } ∷ [];
}

abbrev life_f1 : Function
life_f1 = record {
  name = (named 4 104);
  result = (Some (named 5 100));
  left = None;
  right = (Some (named 1 109));
  locals = ((named 6 111) ∷ (named 7 113) ∷ []);
  lines =
      record { label = None; statement = st.Quiet (node 115 (v.Assign (name_id 7) (node 126 (v.Dyad (pr.Scalar f.Add) (node 121 (v.Dyad (pr.Reverse ax.First) (node 120 (v.Numbers (pos 1 ∷ []))) (node 124 (v.Name (name_id 1))))) (node 128 (v.Dyad (pr.Scalar f.Add) (node 127 (v.Name (name_id 1))) (node 132 (v.Dyad (pr.Reverse ax.First) (node 129 (v.Numbers (neg_ℤ (pos 1) ∷ []))) (node 135 (v.Name (name_id 1))))))))))) } ∷
      record { label = None; statement = st.Quiet (node 137 (v.Assign (name_id 6) (node 148 (v.Dyad (pr.Scalar f.Add) (node 143 (v.Dyad (pr.Reverse ax.Last) (node 142 (v.Numbers (pos 1 ∷ []))) (node 146 (v.Name (name_id 7))))) (node 150 (v.Dyad (pr.Scalar f.Add) (node 149 (v.Name (name_id 7))) (node 154 (v.Dyad (pr.Reverse ax.Last) (node 151 (v.Numbers (neg_ℤ (pos 1) ∷ []))) (node 157 (v.Name (name_id 7))))))))))) } ∷
      record { label = None; statement = st.Quiet (node 159 (v.Assign (name_id 5) (node 168 (v.Dyad (pr.Scalar f.Or) (node 165 (v.Dyad (pr.Scalar f.Equal) (node 164 (v.Numbers (pos 3 ∷ []))) (node 166 (v.Name (name_id 6))))) (node 172 (v.Dyad (pr.Scalar f.And) (node 171 (v.Name (name_id 1))) (node 176 (v.Dyad (pr.Scalar f.Equal) (node 175 (v.Numbers (pos 4 ∷ []))) (node 177 (v.Name (name_id 6))))))))))) } ∷ [];
}

abbrev life_program : Program
life_program = record { names = (codes "MAIN" ∷ codes "A" ∷ codes "K" ∷ codes "L" ∷ codes "LIFE" ∷ codes "R" ∷ codes "N" ∷ codes "V" ∷ []); origin = pos 1; vars = ([]); functions = (life_f0 ∷ life_f1 ∷ []) }

-- the game of Life on a 5 by 5 torus
pub life : IsProgram (sym (codes "∇") ∷ nm (codes "MAIN") ∷ sym (codes ";") ∷ nm (codes "A") ∷ sym (codes ";") ∷ nm (codes "K") ∷ nl ∷ nm (codes "A") ∷ sym (codes "←") ∷ digit 5 ∷ blank ∷ digit 5 ∷ sym (codes "⍴") ∷ num (pos 25) (codes "25") ∷ sym (codes "↑") ∷ digit 0 ∷ blank ∷ digit 1 ∷ blank ∷ digit 0 ∷ blank ∷ digit 0 ∷ blank ∷ digit 0 ∷ blank ∷ digit 0 ∷ blank ∷ digit 0 ∷ blank ∷ digit 1 ∷ blank ∷ digit 0 ∷ blank ∷ digit 0 ∷ blank ∷ digit 1 ∷ blank ∷ digit 1 ∷ blank ∷ digit 1 ∷ nl ∷ nm (codes "K") ∷ sym (codes "←") ∷ digit 0 ∷ nl ∷ nm (codes "L") ∷ sym (codes ":") ∷ nm (codes "A") ∷ sym (codes "←") ∷ nm (codes "LIFE") ∷ blank ∷ nm (codes "A") ∷ nl ∷ nm (codes "A") ∷ nl ∷ nm (codes "K") ∷ sym (codes "←") ∷ nm (codes "K") ∷ sym (codes "+") ∷ digit 1 ∷ nl ∷ sym (codes "→") ∷ sym (codes "(") ∷ nm (codes "K") ∷ sym (codes "<") ∷ digit 4 ∷ sym (codes ")") ∷ sym (codes "/") ∷ nm (codes "L") ∷ nl ∷ sym (codes "∇") ∷ nl ∷ sym (codes "∇") ∷ nm (codes "R") ∷ sym (codes "←") ∷ nm (codes "LIFE") ∷ blank ∷ nm (codes "A") ∷ sym (codes ";") ∷ nm (codes "N") ∷ sym (codes ";") ∷ nm (codes "V") ∷ nl ∷ nm (codes "V") ∷ sym (codes "←") ∷ sym (codes "(") ∷ digit 1 ∷ sym (codes "⊖") ∷ nm (codes "A") ∷ sym (codes ")") ∷ sym (codes "+") ∷ nm (codes "A") ∷ sym (codes "+") ∷ num (neg_ℤ (pos 1)) (codes "¯1") ∷ sym (codes "⊖") ∷ nm (codes "A") ∷ nl ∷ nm (codes "N") ∷ sym (codes "←") ∷ sym (codes "(") ∷ digit 1 ∷ sym (codes "⌽") ∷ nm (codes "V") ∷ sym (codes ")") ∷ sym (codes "+") ∷ nm (codes "V") ∷ sym (codes "+") ∷ num (neg_ℤ (pos 1)) (codes "¯1") ∷ sym (codes "⌽") ∷ nm (codes "V") ∷ nl ∷ nm (codes "R") ∷ sym (codes "←") ∷ sym (codes "(") ∷ digit 3 ∷ sym (codes "=") ∷ nm (codes "N") ∷ sym (codes ")") ∷ sym (codes "∨") ∷ nm (codes "A") ∷ sym (codes "∧") ∷ digit 4 ∷ sym (codes "=") ∷ nm (codes "N") ∷ nl ∷ sym (codes "∇") ∷ nl ∷ [])
    life_program
unfolding sign encode_utf8 chars
life = record {
  names = refl;
  declared = record { said = ([]); declared = tt; origin = refl; named = refl };
  bare = (more_bare 183 ([]) none_bare);
  few = omega arith;
  functions = (
    record {
      head = record { name = (named 0 3); result = None; left = None; right = None; locals = ((named 1 8) ∷ (named 2 10) ∷ []) };
      headed = refl;
      name = refl;
      result = refl;
      left = refl;
      right = refl;
      locals = refl;
      closed = refl;
      few = omega arith;
      lines = (
        record { label = refl; statement = inr (record { form = value (assign role.Variable 12 1 13 (between (simple (numbers 16 (pos 5) (number 18 (pos 5) no_number))) (both2 19 pr.Shape) (between (simple (numbers 22 (pos 25) no_number)) (dyadic2 24 pr.Take) (operand (simple (numbers 27 (pos 0) (number 29 (pos 1) (number 31 (pos 0) (number 33 (pos 0) (number 35 (pos 0) (number 37 (pos 0) (number 39 (pos 0) (number 41 (pos 1) (number 43 (pos 0) (number 45 (pos 0) (number 47 (pos 1) (number 49 (pos 1) (number 51 (pos 1) no_number)))))))))))))))))); spelled = refl; tree = refl; shallow = refl; small = omega arith }) },
        (
          record { label = refl; statement = inr (record { form = value (assign role.Variable 53 2 54 (operand (simple (numbers 57 (pos 0) no_number)))); spelled = refl; tree = refl; shallow = refl; small = omega arith }) },
          (
            record { label = refl; statement = inr (record { form = value (assign role.Variable 61 1 62 (before (call1 65 4) (operand (simple (variable 70 1))))); spelled = refl; tree = refl; shallow = refl; small = omega arith }) },
            (
              record { label = refl; statement = inr (record { form = value (operand (simple (variable 72 1))); spelled = refl; tree = refl; shallow = refl; small = omega arith }) },
              (
                record { label = refl; statement = inr (record { form = value (assign role.Variable 74 2 75 (between (simple (variable 78 2)) (scalar2 79 (arith_fn f.Add)) (operand (simple (numbers 80 (pos 1) no_number))))); spelled = refl; tree = refl; shallow = refl; small = omega arith }) },
                (
                  record { label = refl; statement = inr (record { form = branch 82 (between (paren 85 (between (simple (variable 86 2)) (scalar2 87 (compare_fn f.Less)) (operand (simple (numbers 88 (pos 4) no_number)))) 89) (copies 90 stroke.Slash ax.Last no_axis) (operand (simple (variable 91 3)))); spelled = refl; tree = refl; shallow = refl; small = omega arith }) },
                  tt,
                ),
              ),
            ),
          ),
        ),
      );
    },
    (
      record {
        head = record { name = (named 4 104); result = (Some (named 5 100)); left = None; right = (Some (named 1 109)); locals = ((named 6 111) ∷ (named 7 113) ∷ []) };
        headed = refl;
        name = refl;
        result = refl;
        left = refl;
        right = refl;
        locals = refl;
        closed = refl;
        few = omega arith;
        lines = (
          record { label = refl; statement = inr (record { form = value (assign role.Variable 115 7 116 (between (paren 119 (between (simple (numbers 120 (pos 1) no_number)) (turn2 121 ax.First no_axis) (operand (simple (variable 124 1)))) 125) (scalar2 126 (arith_fn f.Add)) (between (simple (variable 127 1)) (scalar2 128 (arith_fn f.Add)) (between (simple (numbers 129 (neg_ℤ (pos 1)) no_number)) (turn2 132 ax.First no_axis) (operand (simple (variable 135 1))))))); spelled = refl; tree = refl; shallow = refl; small = omega arith }) },
          (
            record { label = refl; statement = inr (record { form = value (assign role.Variable 137 6 138 (between (paren 141 (between (simple (numbers 142 (pos 1) no_number)) (turn2 143 ax.Last no_axis) (operand (simple (variable 146 7)))) 147) (scalar2 148 (arith_fn f.Add)) (between (simple (variable 149 7)) (scalar2 150 (arith_fn f.Add)) (between (simple (numbers 151 (neg_ℤ (pos 1)) no_number)) (turn2 154 ax.Last no_axis) (operand (simple (variable 157 7))))))); spelled = refl; tree = refl; shallow = refl; small = omega arith }) },
            (
              record { label = refl; statement = inr (record { form = value (assign role.Variable 159 5 160 (between (paren 163 (between (simple (numbers 164 (pos 3) no_number)) (scalar2 165 (compare_fn f.Equal)) (operand (simple (variable 166 6)))) 167) (scalar2 168 (compare_fn f.Or)) (between (simple (variable 171 1)) (scalar2 172 (compare_fn f.And)) (between (simple (numbers 175 (pos 4) no_number)) (scalar2 176 (compare_fn f.Equal)) (operand (simple (variable 177 6))))))); spelled = refl; tree = refl; shallow = refl; small = omega arith }) },
              tt,
            ),
          ),
        );
      },
      tt,
    ),
  );
}

abbrev calls_f0 : Function
calls_f0 = record {
  name = (named 0 3);
  result = None;
  left = None;
  right = None;
  locals = ((named 1 8) ∷ []);
  lines =
      record { label = None; statement = st.Quiet (node 10 (v.Assign (name_id 1) (node 14 (v.Numbers (pos 1 ∷ []))))) } ∷
      record { label = None; statement = st.Quiet (node 16 (v.Call (name_id 2) None None)) } ∷ [];
}

abbrev calls_f1 : Function
calls_f1 = record {
  name = (named 2 25);
  result = None;
  left = None;
  right = None;
  locals = ([]);
  lines =
      record { label = None; statement = st.Display (node 27 (v.Name (name_id 1))) } ∷ [];
}

abbrev calls_program : Program
calls_program = record { names = (codes "MAIN" ∷ codes "X" ∷ codes "F" ∷ []); origin = pos 1; vars = ([]); functions = (calls_f0 ∷ calls_f1 ∷ []) }

-- a procedure that reads a name of its caller
pub calls : IsProgram (sym (codes "∇") ∷ nm (codes "MAIN") ∷ sym (codes ";") ∷ nm (codes "X") ∷ nl ∷ nm (codes "X") ∷ sym (codes "←") ∷ digit 1 ∷ nl ∷ nm (codes "F") ∷ nl ∷ sym (codes "∇") ∷ nl ∷ sym (codes "∇") ∷ nm (codes "F") ∷ nl ∷ nm (codes "X") ∷ nl ∷ sym (codes "∇") ∷ nl ∷ [])
    calls_program
unfolding sign encode_utf8 chars
calls = record {
  names = refl;
  declared = record { said = ([]); declared = tt; origin = refl; named = refl };
  bare = (more_bare 33 ([]) none_bare);
  few = omega arith;
  functions = (
    record {
      head = record { name = (named 0 3); result = None; left = None; right = None; locals = ((named 1 8) ∷ []) };
      headed = refl;
      name = refl;
      result = refl;
      left = refl;
      right = refl;
      locals = refl;
      closed = refl;
      few = omega arith;
      lines = (
        record { label = refl; statement = inr (record { form = value (assign role.Variable 10 1 11 (operand (simple (numbers 14 (pos 1) no_number)))); spelled = refl; tree = refl; shallow = refl; small = omega arith }) },
        (
          record { label = refl; statement = inr (record { form = perform0 16 2; spelled = refl; tree = refl; shallow = refl; small = omega arith }) },
          tt,
        ),
      );
    },
    (
      record {
        head = record { name = (named 2 25); result = None; left = None; right = None; locals = ([]) };
        headed = refl;
        name = refl;
        result = refl;
        left = refl;
        right = refl;
        locals = refl;
        closed = refl;
        few = omega arith;
        lines = (
          record { label = refl; statement = inr (record { form = value (operand (simple (variable 27 1))); spelled = refl; tree = refl; shallow = refl; small = omega arith }) },
          tt,
        );
      },
      tt,
    ),
  );
}

abbrev declared_f0 : Function
declared_f0 = record {
  name = (named 7 48);
  result = None;
  left = None;
  right = None;
  locals = ([]);
  lines =
      record { label = None; statement = st.Empty } ∷
      record { label = (Some (named 8 54)); statement = st.Empty } ∷ [];
}

abbrev declared_program : Program
declared_program = record { names = (codes "ORIGIN" ∷ codes "VAR" ∷ codes "A" ∷ codes "NUM" ∷ codes "RANK" ∷ codes "B" ∷ codes "CHAR" ∷ codes "MAIN" ∷ codes "L" ∷ []); origin = pos 0; vars = (record { name = named 2 14; kind = kind.Num; rank = 2 } ∷ record { name = named 5 31; kind = kind.Char; rank = 0 } ∷ []); functions = (declared_f0 ∷ []) }

-- declarations, an empty line and a label alone
pub declared : IsProgram (nm (codes "ORIGIN") ∷ blank ∷ digit 0 ∷ nl ∷ nl ∷ nm (codes "VAR") ∷ blank ∷ nm (codes "A") ∷ blank ∷ nm (codes "NUM") ∷ blank ∷ nm (codes "RANK") ∷ blank ∷ digit 2 ∷ nl ∷ nm (codes "VAR") ∷ blank ∷ nm (codes "B") ∷ blank ∷ nm (codes "CHAR") ∷ blank ∷ nm (codes "RANK") ∷ blank ∷ digit 0 ∷ nl ∷ sym (codes "∇") ∷ nm (codes "MAIN") ∷ nl ∷ nl ∷ nm (codes "L") ∷ sym (codes ":") ∷ nl ∷ sym (codes "∇") ∷ nl ∷ nl ∷ [])
    declared_program
unfolding sign encode_utf8 chars
declared = record {
  names = refl;
  declared = record { said = (origin (pos 0) ∷ nothing ∷ var (record { name = named 2 14; kind = kind.Num; rank = 2 }) ∷ var (record { name = named 5 31; kind = kind.Char; rank = 0 }) ∷ []); declared = (refl, (refl, (refl, (refl, tt)))); origin = refl; named = refl };
  bare = (more_bare 61 (row 62 [] ∷ []) (more_bare 62 ([]) none_bare));
  few = omega arith;
  functions = (
    record {
      head = record { name = (named 7 48); result = None; left = None; right = None; locals = ([]) };
      headed = refl;
      name = refl;
      result = refl;
      left = refl;
      right = refl;
      locals = refl;
      closed = refl;
      few = omega arith;
      lines = (
        record { label = refl; statement = inl (refl, refl) },
        (
          record { label = refl; statement = inl (refl, refl) },
          tt,
        ),
      );
    },
    tt,
  );
}
