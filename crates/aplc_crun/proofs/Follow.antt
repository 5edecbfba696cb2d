-- A step over places is a step of the definition.
use Rattle.std.proofs.Common.{◌≡◌, ◌∙◌, ap, sym, refl, ℕ, zero, suc, ◌+◌, ◌≤◌, ◌^◌, List, [], ◌∷◌, ◌++◌, length, length-append, arith, append_assoc, ℤ, pos, negsuc, Bool, true, false, cond, map, subst, zero-add, max}
use Rattle.std.specs.Prelude.{Option, Some, None, Ok, Err, slice_get, slice_set, replicate, nat_lt, nat_le, sum_by, encode_utf8}
use Rattle.std.proofs.lemmas.List.{length-replicate, length-set, length-map}
use Rattle.aplc_cprof.specs.declared.syntax.Int.{Int}
use Rattle.aplc_cprof.specs.declared.syntax.Int.TheVariants as int
use Rattle.aplc_cprof.specs.declared.syntax.Buf.{Buf}
use Rattle.aplc_cprof.specs.declared.syntax.Buf.TheVariants as buf
use Rattle.aplc_cprof.specs.declared.syntax.CExpr.{CExpr}
use Rattle.aplc_cprof.specs.declared.syntax.CStmt.{CStmt, out-CStmt}
use Rattle.aplc_cprof.specs.declared.syntax.CStmt.TheVariants as stmt
use Rattle.aplc_cprof.specs.declared.syntax.CStmt.TheOpen.{CStmt-F}
use Rattle.aplc_cprof.specs.declared.syntax.Arm.{Arm}
use Rattle.aplc_cprof.specs.declared.syntax.StuckCause.TheVariants.{Outside, Range}
use Rattle.aplc_cprof.specs.Machine.{Value, Is, Bad, Todo, Code, Place, most_places, State, Caller, Next, value, is_zero, with_value, limit_or, set_int, set_buf, buf_or_null, named_buf, read_int, onward, printed, ranged, exact, text_width, padded_text, is_scalar, act, due, leave, step, run, settled, settled_next, and_then, cells_of, numbered, numbered_if, chosen, size, total, no_ints, no_bufs, held, put}
use Rattle.aplc_cprof.specs.Machine as machine
use Rattle.aplc_cprof.proofs.Values.{value_same}
use Rattle.aplc_crun.specs.Terms.{expr_of}
use Rattle.aplc_crun.specs.declared.code.Node.{Node}
use Rattle.aplc_crun.specs.declared.code.Node.TheVariants as form
use Rattle.aplc_crun.specs.declared.code.Entry.{Entry}
use Rattle.aplc_crun.specs.Seen.{cells_written, heap_with, written_in}
use Rattle.aplc_crun.specs.Flat.{Flat, Kept, Flow, Going, Ended, Faulted, Stuck, Held, Layout, env, with_number, or_limit, go_to, with_int, with_buf, other_buf, with_cells, make_cells, free_found, free_cells, with_heap, write_cell, put_text, put_number, put_character, leave_to, entered, enter, marked, deeper, back_to, picked, flat_act, act_at, counted, settle, flat_step, flat_then, flat_run}
use Rattle.aplc_crun.specs.Laying.{Due, Globals, Falls, IntIn, BufIn, OnwardAt, NodeOk, PartOk, AllFit, IsLaid, code_for, Setting, place_of, place_at, caller_of, state_of, HaveRoom, Sound}
use Rattle.aplc_crun.proofs.Frames.{frame_set, globals_set, frame_none, held_set, held_more}

-- a state of the definition is what the machine over places stands for, which is sound
pub record Meet (g : Globals) (s : Setting) (f : Flat) (x y : Next) : Type 0 where
  pub state : x ≡ y
  pub sound : Sound g s.due s.marks f

-- what a step over places comes to is what the definition says, where it was taken
abbrev pub Meets : Globals → Setting → Flow → Next → Type 0
Meets g s (Going f) y = Meet g s f (machine.Going (state_of s f)) y
Meets g s (Ended f) y = Meet g s f (machine.Ended (state_of s f)) y
Meets g s (Faulted c f) y = Meet g s f (machine.Faulted c (state_of s f)) y
Meets g s (Stuck c f) y = Meet g s f (machine.Stuck c f.at (state_of s f)) y
Meets g s (Held f) y = Unit {0}

pub along : (g : Globals) (s : Setting) (x : Flow) (y z : Next) → Meets g s x y → y ≡ z → Meets g s x z
along g s (Going f) y z h e = record { state = h.state ∙ e; sound = h.sound }
along g s (Ended f) y z h e = record { state = h.state ∙ e; sound = h.sound }
along g s (Faulted c f) y z h e = record { state = h.state ∙ e; sound = h.sound }
along g s (Stuck c f) y z h e = record { state = h.state ∙ e; sound = h.sound }
along g s (Held f) y z h e = tt

-- what is read is the same in both
value_here : (s : Setting) (f : Flat) (e : CExpr) (tables : List (List ℤ)) → value e tables (env f) ≡ value e tables (state_of s f)
value_here s f e tables = value_same (env f) (state_of s f) (record { ints = refl; bufs = refl; global_ints = refl; global_bufs = refl; heap = refl }) e tables

named_here : (s : Setting) (f : Flat) (p : Buf) → named_buf p (env f) ≡ named_buf p (state_of s f)
named_here s f (buf.Local n) = refl
named_here s f (buf.Global n) = refl

read_here : (s : Setting) (f : Flat) (x : Int) → read_int x (env f) ≡ read_int x (state_of s f)
read_here s f (int.Local n) = refl
read_here s f (int.Global n) = refl

other_here : (s : Setting) (f : Flat) (q : Option Buf) → other_buf q f ≡ buf_or_null q (state_of s f)
other_here s f None = refl
other_here s f (Some q) = named_here s f q

-- another place, where no more may be named
moved : (g : Globals) (k : Due) (ms : List Place) (next : ℕ) (f : Flat) → Falls (k f.at) (k next) → Sound g k ms f → Sound g k ms (record f { at = next })
moved g k ms next f falls sound = record {
  ints = omega (arith, falls.ints, sound.ints);
  bufs = omega (arith, falls.bufs, sound.bufs);
  global_ints = sound.global_ints;
  global_bufs = sound.global_bufs;
  callers = sound.callers;
  marks = sound.marks;
  held = sound.held;
}

go_meets : (g : Globals) (s : Setting) (next : ℕ) (f : Flat) → Falls (s.due f.at) (s.due next) → Sound g s.due s.marks f → Meets g s (go_to next f) (onward (s.due next).todo (state_of s f))
go_meets g s next f falls sound = record { state = refl; sound = moved g s.due s.marks next f falls sound }

set_meets : (g : Globals) (s : Setting) (x : Int) (v : ℤ) (next : ℕ) (f : Flat) → Falls (s.due f.at) (s.due next) → IntIn g (s.due f.at) x → Sound g s.due s.marks f → Meets g s (go_to next (with_int x v f)) (onward (s.due next).todo (set_int x v (state_of s f)))
set_meets g s (int.Local n) v next f falls within sound = record {
  state = ap (λ (ints : ℕ → Option ℤ). machine.Going (record (state_of s (record f { at = next })) { ints = ints })) (frame_set f.ints n (Some v) (omega (arith, within, sound.ints)));
  sound = record {
    ints = let e = length-set f.ints n (Some v) in omega (arith, falls.ints, sound.ints);
    bufs = omega (arith, falls.bufs, sound.bufs);
    global_ints = sound.global_ints;
    global_bufs = sound.global_bufs;
    callers = sound.callers;
    marks = sound.marks;
    held = sound.held;
  };
}
set_meets g s (int.Global n) v next f falls within sound = record {
  state = ap (λ (ints : ℕ → ℤ). machine.Going (record (state_of s (record f { at = next })) { global_ints = ints })) (globals_set f.global_ints n v (omega (arith, within, sound.global_ints)));
  sound = record {
    ints = omega (arith, falls.ints, sound.ints);
    bufs = omega (arith, falls.bufs, sound.bufs);
    global_ints = let e = length-set f.global_ints n v in omega (arith, sound.global_ints);
    global_bufs = sound.global_bufs;
    callers = sound.callers;
    marks = sound.marks;
    held = sound.held;
  };
}

pub buf_meets : (g : Globals) (s : Setting) (p : Buf) (b : Option ℕ) (next : ℕ) (f : Flat) → Falls (s.due f.at) (s.due next) → BufIn g (s.due f.at) p → Sound g s.due s.marks f → Meets g s (go_to next (with_buf p b f)) (onward (s.due next).todo (set_buf p b (state_of s f)))
buf_meets g s (buf.Local n) b next f falls within sound = record {
  state = ap (λ (bufs : ℕ → Option ℕ). machine.Going (record (state_of s (record f { at = next })) { bufs = bufs })) (frame_set f.bufs n b (omega (arith, within, sound.bufs)));
  sound = record {
    ints = omega (arith, falls.ints, sound.ints);
    bufs = let e = length-set f.bufs n b in omega (arith, falls.bufs, sound.bufs);
    global_ints = sound.global_ints;
    global_bufs = sound.global_bufs;
    callers = sound.callers;
    marks = sound.marks;
    held = sound.held;
  };
}
buf_meets g s (buf.Global n) b next f falls within sound = record {
  state = ap (λ (bufs : ℕ → Option ℕ). machine.Going (record (state_of s (record f { at = next })) { global_bufs = bufs })) (frame_set f.global_bufs n b (omega (arith, within, sound.global_bufs)));
  sound = record {
    ints = omega (arith, falls.ints, sound.ints);
    bufs = omega (arith, falls.bufs, sound.bufs);
    global_ints = sound.global_ints;
    global_bufs = let e = length-set f.global_bufs n b in omega (arith, sound.global_bufs);
    callers = sound.callers;
    marks = sound.marks;
    held = sound.held;
  };
}

with_meets : (g : Globals) (s : Setting) (w : Value) (f : Flat) (go : ℤ → Flow) (goes : ℤ → Next) → Sound g s.due s.marks f → ((v : ℤ) → Meets g s (go v) (goes v)) → Meets g s (with_number w f go) (with_value w f.at (state_of s f) goes)
with_meets g s (Bad c) f go goes sound h = record { state = refl; sound = sound }
with_meets g s (Is v) f go goes sound h = h v

limit_meets : (g : Globals) (s : Setting) (w : Value) (f : Flat) (go : ℤ → Flow) (goes : ℤ → Next) → Sound g s.due s.marks f → ((v : ℤ) → Meets g s (go v) (goes v)) → Meets g s (or_limit w f go) (limit_or w (state_of s f) goes)
limit_meets g s (Bad c) f go goes sound h = record { state = refl; sound = sound }
limit_meets g s (Is v) f go goes sound h = h v

-- the value of an expression, and then what is done with it
value_meets : (g : Globals) (s : Setting) (e : CExpr) (tables : List (List ℤ)) (f : Flat) (go : ℤ → Flow) (goes : ℤ → Next) → Sound g s.due s.marks f → ((v : ℤ) → Meets g s (go v) (goes v)) → Meets g s (with_number (value e tables (env f)) f go) (with_value (value e tables (state_of s f)) f.at (state_of s f) goes)
value_meets g s e tables f go goes sound h =
    along g s _ _ _ (with_meets g s (value e tables (env f)) f go goes sound h) (ap (λ w. with_value w f.at (state_of s f) goes) (value_here s f e tables))

-- ---- Buffers

stored_meets : (g : Globals) (s : Setting) (b : ℕ) (cells : List ℤ) (k : ℕ) (v : ℤ) (next : ℕ) (f : Flat) (t : Bool) → slice_get f.heap b ≡ Some (Some cells) → Falls (s.due f.at) (s.due next) → Sound g s.due s.marks f → Meets g s (with_heap (heap_with f.heap b (cond t (Ok (Some (slice_set cells k v))) (Err Outside))) next f) (cond t (onward (s.due next).todo (record (state_of s f) { heap = slice_set f.heap b (Some (slice_set cells k v)) })) (machine.Stuck Outside f.at (state_of s f)))
stored_meets g s b cells k v next f true found falls sound = record {
  state = refl;
  sound = record {
    ints = omega (arith, falls.ints, sound.ints);
    bufs = omega (arith, falls.bufs, sound.bufs);
    global_ints = sound.global_ints;
    global_bufs = sound.global_bufs;
    callers = sound.callers;
    marks = sound.marks;
    held =
        let e : sum_by cells_of (slice_set f.heap b (Some (slice_set cells k v))) + length cells ≡ sum_by cells_of f.heap + length (slice_set cells k v) = held_set f.heap b (Some cells) (Some (slice_set cells k v)) found in
        let h = length-set cells k v in
        omega (arith, sound.held);
  };
}
stored_meets g s b cells k v next f false found falls sound = record { state = refl; sound = sound }

place_meets : (g : Globals) (s : Setting) (b : ℕ) (cells : List ℤ) (k v : ℤ) (next : ℕ) (f : Flat) → slice_get f.heap b ≡ Some (Some cells) → Falls (s.due f.at) (s.due next) → Sound g s.due s.marks f → Meets g s (with_heap (heap_with f.heap b (cells_written cells k v)) next f) (machine.write_place b cells k v f.at (s.due next).todo (state_of s f))
place_meets g s b cells (pos k) v next f found falls sound = stored_meets g s b cells k v next f (nat_lt k (length cells)) found falls sound
place_meets g s b cells (negsuc k) v next f found falls sound = record { state = refl; sound = sound }

found_meets : (g : Globals) (s : Setting) (b : ℕ) (o : Option (Option (List ℤ))) (k v : ℤ) (next : ℕ) (f : Flat) → slice_get f.heap b ≡ o → Falls (s.due f.at) (s.due next) → Sound g s.due s.marks f → Meets g s (with_heap (written_in f.heap b o k v) next f) (machine.write_live b o k v f.at (s.due next).todo (state_of s f))
found_meets g s b None k v next f found falls sound = record { state = refl; sound = sound }
found_meets g s b (Some None) k v next f found falls sound = record { state = refl; sound = sound }
found_meets g s b (Some (Some cells)) k v next f found falls sound = place_meets g s b cells k v next f found falls sound

write_meets : (g : Globals) (s : Setting) (b : Option ℕ) (k v : ℤ) (next : ℕ) (f : Flat) → Falls (s.due f.at) (s.due next) → Sound g s.due s.marks f → Meets g s (write_cell b k v next f) (machine.write_cell b k v f.at (s.due next).todo (state_of s f))
write_meets g s None k v next f falls sound = record { state = refl; sound = sound }
write_meets g s (Some b) k v next f falls sound = found_meets g s b (slice_get f.heap b) k v next f refl falls sound

freed_meets : (g : Globals) (s : Setting) (b : ℕ) (o : Option (Option (List ℤ))) (next : ℕ) (f : Flat) → slice_get f.heap b ≡ o → Falls (s.due f.at) (s.due next) → Sound g s.due s.marks f → Meets g s (free_found b o next f) (machine.free_cells b o f.at (s.due next).todo (state_of s f))
freed_meets g s b None next f found falls sound = record { state = refl; sound = sound }
freed_meets g s b (Some None) next f found falls sound = record { state = refl; sound = sound }
freed_meets g s b (Some (Some cells)) next f found falls sound = record {
  state = refl;
  sound = record {
    ints = omega (arith, falls.ints, sound.ints);
    bufs = omega (arith, falls.bufs, sound.bufs);
    global_ints = sound.global_ints;
    global_bufs = sound.global_bufs;
    callers = sound.callers;
    marks = sound.marks;
    held =
        let e : sum_by cells_of (slice_set f.heap b None) + length cells ≡ sum_by cells_of f.heap + 0 = held_set f.heap b (Some cells) None found in
        omega (arith, sound.held);
  };
}

free_meets : (g : Globals) (s : Setting) (b : Option ℕ) (next : ℕ) (f : Flat) → Falls (s.due f.at) (s.due next) → Sound g s.due s.marks f → Meets g s (free_cells b next f) (machine.free_named b f.at (s.due next).todo (state_of s f))
free_meets g s None next f falls sound = go_meets g s next f falls sound
free_meets g s (Some b) next f falls sound = freed_meets g s b (slice_get f.heap b) next f refl falls sound

made_sound : (g : Globals) (k : Due) (ms : List Place) (n : ℕ) (f : Flat) → Sound g k ms f → Sound g k ms (with_cells n f)
made_sound g k ms n f sound = record {
  ints = sound.ints;
  bufs = sound.bufs;
  global_ints = sound.global_ints;
  global_bufs = sound.global_bufs;
  callers = sound.callers;
  marks = sound.marks;
  held =
      let e : sum_by cells_of (f.heap ++ Some (replicate n (pos 0)) ∷ []) ≡ sum_by cells_of f.heap + length (replicate n (pos 0)) = held_more f.heap (Some (replicate n (pos 0))) in
      let h = length-replicate n (pos 0) in
      omega (arith, sound.held);
}

made_meets : (g : Globals) (s : Setting) (p : Buf) (n next : ℕ) (f : Flat) (t : Bool) → Falls (s.due f.at) (s.due next) → BufIn g (s.due f.at) p → Sound g s.due s.marks f → Meets g s (cond t (go_to next (with_buf p (Some (length f.heap)) (with_cells n f))) (Stuck Range f)) (cond t (onward (s.due next).todo (set_buf p (Some (length f.heap)) (record (state_of s f) { heap = f.heap ++ Some (replicate n (pos 0)) ∷ [] }))) (machine.Stuck Range f.at (state_of s f)))
made_meets g s p n next f true falls within sound = buf_meets g s p (Some (length f.heap)) next (with_cells n f) falls within (made_sound g s.due s.marks n f sound)
made_meets g s p n next f false falls within sound = record { state = refl; sound = sound }

cells_meets : (g : Globals) (s : Setting) (p : Buf) (n : ℤ) (next : ℕ) (f : Flat) → Falls (s.due f.at) (s.due next) → BufIn g (s.due f.at) p → Sound g s.due s.marks f → Meets g s (make_cells p n next f) (machine.new_cells p n f.at (s.due next).todo (state_of s f))
cells_meets g s p (pos n) next f falls within sound = made_meets g s p n next f (nat_lt n (2 ^ 31)) falls within sound
cells_meets g s p (negsuc n) next f falls within sound = record { state = refl; sound = sound }

-- ---- Output

text_meets : (g : Globals) (s : Setting) (text : List ℕ) (next : ℕ) (f : Flat) (t : Bool) → Falls (s.due f.at) (s.due next) → Sound g s.due s.marks f → Meets g s (cond t (Held f) (go_to next (record f { output = f.output ++ text }))) (printed text (s.due next).todo (state_of s f))
text_meets g s text next f true falls sound = tt
text_meets g s text next f false falls sound = record {
  state = ap (λ (o : List ℕ). machine.Going (record (state_of s (record f { at = next })) { output = o })) (sym (append_assoc s.given f.output text));
  sound = record {
    ints = omega (arith, falls.ints, sound.ints);
    bufs = omega (arith, falls.bufs, sound.bufs);
    global_ints = sound.global_ints;
    global_bufs = sound.global_bufs;
    callers = sound.callers;
    marks = sound.marks;
    held = sound.held;
  };
}

put_meets : (g : Globals) (s : Setting) (text : List ℕ) (next : ℕ) (f : Flat) → Falls (s.due f.at) (s.due next) → Sound g s.due s.marks f → Meets g s (put_text text next f) (printed text (s.due next).todo (state_of s f))
put_meets g s text next f falls sound = text_meets g s text next f (nat_lt 8192 (length f.output + 64)) falls sound

ranged_meets : (g : Globals) (s : Setting) (text : List ℕ) (next : ℕ) (f : Flat) (t : Bool) → Falls (s.due f.at) (s.due next) → Sound g s.due s.marks f → Meets g s (cond t (put_text text next f) (Stuck Range f)) (cond t (printed text (s.due next).todo (state_of s f)) (machine.Stuck Range f.at (state_of s f)))
ranged_meets g s text next f true falls sound = put_meets g s text next f falls sound
ranged_meets g s text next f false falls sound = record { state = refl; sound = sound }

number_meets : (g : Globals) (s : Setting) (v w : ℤ) (next : ℕ) (f : Flat) → Falls (s.due f.at) (s.due next) → Sound g s.due s.marks f → Meets g s (put_number v w next f) (machine.put_number v w f.at (s.due next).todo (state_of s f))
number_meets g s v (pos w) next f falls sound = ranged_meets g s (padded_text v w) next f (nat_le w 20) falls sound
number_meets g s v (negsuc w) next f falls sound = record { state = refl; sound = sound }

character_meets : (g : Globals) (s : Setting) (v : ℤ) (next : ℕ) (f : Flat) → Falls (s.due f.at) (s.due next) → Sound g s.due s.marks f → Meets g s (put_character v next f) (machine.put_character v f.at (s.due next).todo (state_of s f))
character_meets g s (pos c) next f falls sound = ranged_meets g s (encode_utf8 c) next f (is_scalar c) falls sound
character_meets g s (negsuc c) next f falls sound = record { state = refl; sound = sound }

-- ---- Calls and places

leave_meets : (g : Globals) (s : Setting) (cs : List Kept) (f : Flat) → HaveRoom s.due cs → Sound g s.due s.marks f → Meets g s (leave_to cs f) (leave (map (caller_of s.due) cs) (state_of s f))
leave_meets g s [] f room sound = record { state = refl; sound = sound }
leave_meets g s (c ∷ cs) f room sound = record {
  state = refl;
  sound = record { ints = room.0; bufs = room.1; global_ints = sound.global_ints; global_bufs = sound.global_bufs; callers = room.2; held = sound.held; marks = sound.marks };
}

entered_meets : (g : Globals) (s : Setting) (e : Entry) (next : ℕ) (f : Flat) → Falls (s.due f.at) (s.due next) → (s.due e.at).ints ≤ e.ints → (s.due e.at).bufs ≤ e.bufs → Sound g s.due s.marks f → Meets g s (Going (entered e next f)) (machine.enter (Some (s.due e.at).todo) f.at (s.due next).todo (state_of s f))
entered_meets g s e next f falls fit_ints fit_bufs sound = record {
  state =
      ap (λ (ints : ℕ → Option ℤ). machine.Going (record (state_of s (entered e next f)) { ints = ints })) (frame_none e.ints)
      ∙ ap (λ (bufs : ℕ → Option ℕ). machine.Going (record (state_of s (entered e next f)) { ints = no_ints; bufs = bufs })) (frame_none e.bufs);
  sound = record {
    ints = let h = length-replicate {A = Option ℤ} e.ints None in omega (arith, fit_ints);
    bufs = let h = length-replicate {A = Option ℕ} e.bufs None in omega (arith, fit_bufs);
    global_ints = sound.global_ints;
    global_bufs = sound.global_bufs;
    callers = (omega (arith, falls.ints, sound.ints), omega (arith, falls.bufs, sound.bufs), sound.callers);
    marks = sound.marks;
    held = sound.held;
  };
}

-- the entry at a number, and what a frame of it has room for
enter_meets : (g : Globals) (s : Setting) (es : List Entry) (c next : ℕ) (f : Flat) → AllFit s.due es → Falls (s.due f.at) (s.due next) → Sound g s.due s.marks f → Meets g s (enter (slice_get es c) next f) (machine.enter (slice_get (map (λ e. (s.due e.at).todo) es) c) f.at (s.due next).todo (state_of s f))
enter_meets g s [] c next f fit falls sound = record { state = refl; sound = sound }
enter_meets g s (e ∷ es) zero next f fit falls sound = entered_meets g s e next f falls fit.0 fit.1 sound
enter_meets g s (e ∷ es) (suc c) next f fit falls sound = enter_meets g s es c next f fit.2 falls sound

branch_meets : (g : Globals) (s : Setting) (met other : ℕ) (f : Flat) (t u : Todo) (b : Bool) → (s.due met).todo ≡ t → (s.due other).todo ≡ u → Falls (s.due f.at) (s.due met) → Falls (s.due f.at) (s.due other) → Sound g s.due s.marks f → Meets g s (go_to (cond b other met) f) (onward (cond b u t) (state_of s f))
branch_meets g s met other f t u true first second falls_first falls_second sound = record {
  state = ap (λ (t : Todo). machine.Going (record (state_of s f) { todo = t })) second;
  sound = moved g s.due s.marks other f falls_second sound;
}
branch_meets g s met other f t u false first second falls_first falls_second sound = record {
  state = ap (λ (t : Todo). machine.Going (record (state_of s f) { todo = t })) first;
  sound = moved g s.due s.marks met f falls_first sound;
}

-- the definition's step at a statement that is known
pub at_due : (c : Code) (t : Todo) (n : ℕ) (x : CStmt) (l : CStmt-F CStmt Arm) (rest : Todo) (st : State) → t ≡ (n, x) ∷ rest → out-CStmt x ≡ l → act c l n x rest st ≡ due c t st
at_due c t n x l rest st e h = ap (λ y. act c y n x rest st) (sym h) ∙ ap (λ u. due c u st) (sym e)

-- a statement that goes on elsewhere
onward_meets : (g : Globals) (s : Setting) (l : Layout) (n : ℕ) (x : CStmt) (form : CStmt-F CStmt Arm) (next : ℕ) (f : Flat) (flow : Flow) → OnwardAt s.due f.at x next → out-CStmt x ≡ form → Meets g s flow (act (code_for s.due l) form f.at x (s.due next).todo (state_of s f)) → Meets g s flow (due (code_for s.due l) (s.due f.at).todo (state_of s f))
onward_meets g s l n x form next f flow ok out h =
    along g s flow _ _ h (at_due (code_for s.due l) (s.due f.at).todo f.at x form (s.due next).todo (state_of s f) ok.due out)

-- ---- Places and marks

-- what comes of steps, with at most k marks more than there were
pub record Marked (g : Globals) (s : Setting) (k : ℕ) (x : Flow) (y : Next) : Type 0 where
  pub marks : List Place
  pub few : length marks ≤ k + length s.marks
  pub meets : Meets g (record s { marks = marks }) x y

-- a step that leaves no mark
unmarked : (g : Globals) (s : Setting) (x : Flow) (y : Next) → Meets g s x y → Marked g s 1 x y
unmarked g s x y h = record { marks = s.marks; few = omega arith; meets = h }

-- a mark sets the innermost place
mark_meets : (g : Globals) (s : Setting) (l : Layout) (name : List ℕ) (line : ℤ) (next : ℕ) (f : Flat) → slice_get s.nodes f.at ≡ Some (form.At name line next) → OnwardAt s.due f.at (stmt.At name line) next → Sound g s.due s.marks f → Marked g s 1 (go_to next (marked f.at f)) (due (code_for s.due l) (s.due f.at).todo (state_of s f))
mark_meets g s l name line next f here ok sound =
    let p : Place = record { name = name; line = line } in
    let w : Setting = record s { marks = s.marks ++ p ∷ [] } in
    let more : length (s.marks ++ p ∷ []) ≡ length s.marks + 1 = length-append s.marks (p ∷ []) in
    record {
      marks = s.marks ++ p ∷ [];
      few = omega arith;
      meets =
          along g w (go_to next (marked f.at f)) _ _
          (record {
            state = ap (λ (o : Option Node). machine.Going (record (state_of w (record (marked f.at f) { at = next })) { places = record { here = place_of o; behind = map (place_at s.nodes) f.behind } })) here;
            sound = record {
              ints = omega (arith, ok.falls.ints, sound.ints);
              bufs = omega (arith, ok.falls.bufs, sound.bufs);
              global_ints = sound.global_ints;
              global_bufs = sound.global_bufs;
              callers = sound.callers;
              held = sound.held;
              marks = omega (arith, sound.marks);
            };
          })
          (at_due (code_for s.due l) (s.due f.at).todo f.at (stmt.At name line) (CStmt-F.At name line) (s.due next).todo (state_of s f) ok.due (stmt.outs-At name line));
    }

-- what the definition says of a new place, by whether there is room for it
abbrev deeper_if : Globals → Setting → ℕ → Flat → Bool → Next
deeper_if g s next f t = cond t (onward (s.due next).todo (record (state_of s f) { places = machine.deeper (state_of s f).places })) (machine.Stuck Outside f.at (state_of s f))

deeper_meets : (g : Globals) (s : Setting) (next : ℕ) (f : Flat) (t : Bool) → Falls (s.due f.at) (s.due next) → Sound g s.due s.marks f → Meets g s (cond t (go_to next (record f { here = None; behind = f.here ∷ f.behind })) (Stuck Outside f)) (deeper_if g s next f t)
deeper_meets g s next f true falls sound = record {
  state = refl;
  sound = record {
    ints = omega (arith, falls.ints, sound.ints);
    bufs = omega (arith, falls.bufs, sound.bufs);
    global_ints = sound.global_ints;
    global_bufs = sound.global_bufs;
    callers = sound.callers;
    held = sound.held;
    marks = sound.marks;
  };
}
deeper_meets g s next f false falls sound = record { state = refl; sound = sound }

back_meets : (g : Globals) (s : Setting) (ps : List (Option ℕ)) (next : ℕ) (f : Flat) → Falls (s.due f.at) (s.due next) → Sound g s.due s.marks f → Meets g s (back_to ps next f) (machine.leave_place (map (place_at s.nodes) ps) f.at (s.due next).todo (state_of s f))
back_meets g s [] next f falls sound = record { state = refl; sound = sound }
back_meets g s (p ∷ ps) next f falls sound = record {
  state = refl;
  sound = record {
    ints = omega (arith, falls.ints, sound.ints);
    bufs = omega (arith, falls.bufs, sound.bufs);
    global_ints = sound.global_ints;
    global_bufs = sound.global_bufs;
    callers = sound.callers;
    held = sound.held;
    marks = sound.marks;
  };
}

-- ---- Each form

act_meets : (g : Globals) (s : Setting) (l : Layout) (nd : Node) (f : Flat) → AllFit s.due l.entries → slice_get s.nodes f.at ≡ Some nd → NodeOk g s.due f.at nd → Sound g s.due s.marks f → Marked g s 1 (flat_act l nd f) (due (code_for s.due l) (s.due f.at).todo (state_of s f))
act_meets g s l form.End f fit here ok sound =
    unmarked g s _ _ (along g s _ _ _ (leave_meets g s f.callers f sound.callers sound) (ap (λ t. due (code_for s.due l) t (state_of s f)) (sym ok)))
act_meets g s l (form.Set x e next) f fit here ok sound =
    unmarked g s _ _
    (onward_meets g s l f.at (stmt.Set x (expr_of e)) _ next f _ ok.0 (stmt.outs-Set x (expr_of e))
    (value_meets g s (expr_of e) l.tables f _ _ sound (λ v. set_meets g s x v next f ok.0.falls ok.1 sound)))
act_meets g s l (form.SetCell p e h next) f fit here ok sound =
    unmarked g s _ _
    (onward_meets g s l f.at (stmt.SetCell p (expr_of e) (expr_of h)) _ next f _ ok (stmt.outs-SetCell p (expr_of e) (expr_of h))
    (value_meets g s (expr_of e) l.tables f _ _ sound (λ k. value_meets g s (expr_of h) l.tables f _ _ sound (λ v.
    along g s _ _ _ (write_meets g s (named_buf p (env f)) k v next f ok.falls sound)
    (ap (λ b. machine.write_cell b k v f.at (s.due next).todo (state_of s f)) (named_here s f p))))))
act_meets g s l (form.SetBuf p q next) f fit here ok sound =
    unmarked g s _ _
    (onward_meets g s l f.at (stmt.SetBuf p q) _ next f (go_to next (with_buf p (other_buf q f) f)) ok.0 (stmt.outs-SetBuf p q)
    (along g s (go_to next (with_buf p (other_buf q f) f)) _ _ (buf_meets g s p (other_buf q f) next f ok.0.falls ok.1 sound)
    (ap (λ b. onward (s.due next).todo (set_buf p b (state_of s f))) (other_here s f q))))
act_meets g s l (form.Cells p e next) f fit here ok sound =
    unmarked g s _ _
    (onward_meets g s l f.at (stmt.Cells p (expr_of e)) _ next f _ ok.0 (stmt.outs-Cells p (expr_of e))
    (value_meets g s (expr_of e) l.tables f _ _ sound (λ k. cells_meets g s p k next f ok.0.falls ok.1 sound)))
act_meets g s l (form.Free p next) f fit here ok sound =
    unmarked g s _ _
    (onward_meets g s l f.at (stmt.Free p) _ next f _ ok (stmt.outs-Free p)
    (along g s _ _ _ (free_meets g s (named_buf p (env f)) next f ok.falls sound)
    (ap (λ b. machine.free_named b f.at (s.due next).todo (state_of s f)) (named_here s f p))))
act_meets g s l (form.Check x o e h next) f fit here ok sound =
    unmarked g s _ _
    (onward_meets g s l f.at (stmt.Check x o (expr_of e) (expr_of h)) _ next f _ ok.0 (stmt.outs-Check x o (expr_of e) (expr_of h))
    (value_meets g s (expr_of e) l.tables f _ _ sound (λ a. value_meets g s (expr_of h) l.tables f _ _ sound (λ b.
    limit_meets g s (ranged (exact o a b)) f _ _ sound (λ v. set_meets g s x v next f ok.0.falls ok.1 sound)))))
act_meets g s l (form.Width x e next) f fit here ok sound =
    unmarked g s _ _
    (onward_meets g s l f.at (stmt.Width x (expr_of e)) _ next f _ ok.0 (stmt.outs-Width x (expr_of e))
    (value_meets g s (expr_of e) l.tables f _ _ sound (λ v. set_meets g s x (pos (text_width v)) next f ok.0.falls ok.1 sound)))
act_meets g s l (form.PutNum e h next) f fit here ok sound =
    unmarked g s _ _
    (onward_meets g s l f.at (stmt.PutNum (expr_of e) (expr_of h)) _ next f _ ok (stmt.outs-PutNum (expr_of e) (expr_of h))
    (value_meets g s (expr_of e) l.tables f _ _ sound (λ v. value_meets g s (expr_of h) l.tables f _ _ sound (λ w. number_meets g s v w next f ok.falls sound))))
act_meets g s l (form.PutChar e next) f fit here ok sound =
    unmarked g s _ _
    (onward_meets g s l f.at (stmt.PutChar (expr_of e)) _ next f _ ok (stmt.outs-PutChar (expr_of e))
    (value_meets g s (expr_of e) l.tables f _ _ sound (λ v. character_meets g s v next f ok.falls sound)))
act_meets g s l (form.ReadText p next) f fit here ok sound = unmarked g s _ _ tt
act_meets g s l (form.ReadNums p next) f fit here ok sound = unmarked g s _ _ tt
act_meets g s l (form.ReadCount x next) f fit here ok sound =
    unmarked g s _ _
    (onward_meets g s l f.at (stmt.ReadCount x) _ next f (go_to next (with_int x f.read_count f)) ok.0 (stmt.outs-ReadCount x)
    (set_meets g s x f.read_count next f ok.0.falls ok.1 sound))
act_meets g s l (form.At name line next) f fit here ok sound = mark_meets g s l name line next f here ok sound
act_meets g s l (form.Enter next) f fit here ok sound =
    unmarked g s _ _
    (onward_meets g s l f.at stmt.Enter _ next f (deeper next f) ok stmt.outs-Enter
    (along g s (deeper next f) _ _ (deeper_meets g s next f (nat_lt (length (f.here ∷ f.behind)) most_places) ok.falls sound)
    (ap (λ (n : ℕ). deeper_if g s next f (nat_lt (suc n) most_places)) (sym (length-map f.behind (place_at s.nodes))))))
act_meets g s l (form.Leave next) f fit here ok sound =
    unmarked g s _ _
    (onward_meets g s l f.at stmt.Leave _ next f (back_to f.behind next f) ok stmt.outs-Leave (back_meets g s f.behind next f ok.falls sound))
act_meets g s l (form.Fault kind) f fit here ok sound =
    unmarked g s _ _
    (along g s (Faulted kind f) _ _ (record { state = refl; sound = sound })
    (at_due (code_for s.due l) (s.due f.at).todo f.at (stmt.Fault kind) _ ok.rest (state_of s f) ok.due (stmt.outs-Fault kind)))
act_meets g s l (form.Call c next) f fit here ok sound =
    unmarked g s _ _
    (onward_meets g s l f.at (stmt.Call c) _ next f _ ok (stmt.outs-Call c)
    (enter_meets g s l.entries c next f fit ok.falls sound))
act_meets g s l form.Return f fit here ok sound =
    unmarked g s _ _
    (along g s _ _ _ (leave_meets g s f.callers f sound.callers sound)
    (at_due (code_for s.due l) (s.due f.at).todo f.at stmt.Return _ ok.rest (state_of s f) ok.due stmt.outs-Return))
act_meets g s l (form.If e met other) f fit here ok sound =
    unmarked g s _ _
    (along g s _ _ _
    (value_meets g s (expr_of e) l.tables f _ _ sound (λ v. branch_meets g s met other f _ _ (is_zero v) ok.first ok.second ok.falls_first ok.falls_second sound))
    (at_due (code_for s.due l) (s.due f.at).todo f.at (stmt.If (expr_of e) ok.inner ok.others) _ ok.rest (state_of s f) ok.due (stmt.outs-If (expr_of e) ok.inner ok.others)))
act_meets g s l (form.While e body next) f fit here ok sound =
    unmarked g s _ _
    (along g s _ _ _
    (value_meets g s (expr_of e) l.tables f _ _ sound (λ v. branch_meets g s body next f _ _ (is_zero v)
    (ok.turn ∙ ap (λ t. numbered (f.at + 1) ok.inner ++ t) ok.due) refl ok.falls_in ok.falls sound))
    (at_due (code_for s.due l) (s.due f.at).todo f.at (stmt.While (expr_of e) ok.inner) _ (s.due next).todo (state_of s f) ok.due (stmt.outs-While (expr_of e) ok.inner)))
act_meets g s l (form.Switch x choices other) f fit here ok sound =
    unmarked g s _ _
    (along g s _ _ _
    (along g s _ _ _
    (with_meets g s (read_int x (env f)) f _ _ sound (λ v. record {
      state = ap (λ (t : Todo). machine.Going (record (state_of s f) { todo = t })) (ok.picks v);
      sound = moved g s.due s.marks (picked v choices other) f (ok.falls v) sound;
    }))
    (ap (λ w. with_value w f.at (state_of s f) (λ v. onward (chosen v (f.at + 1) ok.arms ok.default ++ ok.rest) (state_of s f))) (read_here s f x)))
    (at_due (code_for s.due l) (s.due f.at).todo f.at (stmt.Switch x ok.arms ok.default) _ ok.rest (state_of s f) ok.due (stmt.outs-Switch x ok.arms ok.default)))

pub node_at : (g : Globals) (k : Due) (n i : ℕ) (cs : List Node) (nd : Node) → PartOk g k n cs → slice_get cs i ≡ Some nd → NodeOk g k (n + i) nd
node_at g k n i [] nd h e = cc
node_at g k n zero (c ∷ cs) nd h e =
    let same_place : n ≡ n + 0 = omega arith in
    let same_node : c ≡ nd = cc in
    subst (λ (m : ℕ). NodeOk g k m nd) same_place (subst (λ (x : Node). NodeOk g k n x) same_node h.0)
node_at g k n (suc i) (c ∷ cs) nd h e =
    let same_place : suc n + i ≡ n + suc i = omega arith in
    subst (λ (m : ℕ). NodeOk g k m nd) same_place (node_at g k (suc n) i cs nd h.1 e)

at_meets : (g : Globals) (s : Setting) (l : Layout) (found : Option Node) (f : Flat) → AllFit s.due l.entries → slice_get s.nodes f.at ≡ found → ((nd : Node) → found ≡ Some nd → NodeOk g s.due f.at nd) → (found ≡ None → (s.due f.at).todo ≡ []) → Sound g s.due s.marks f → Marked g s 1 (act_at l found f) (due (code_for s.due l) (s.due f.at).todo (state_of s f))
at_meets g s l None f fit here ok beyond sound =
    unmarked g s _ _ (along g s _ _ _ (leave_meets g s f.callers f sound.callers sound) (ap (λ t. due (code_for s.due l) t (state_of s f)) (sym (beyond refl))))
at_meets g s l (Some nd) f fit here ok beyond sound = act_meets g s l nd f fit here (ok nd refl) sound

pub counted_sound : (g : Globals) (k : Due) (ms : List Place) (f : Flat) → Sound g k ms f → Sound g k ms (counted f)
counted_sound g k ms f sound = record { ints = sound.ints; bufs = sound.bufs; global_ints = sound.global_ints; global_bufs = sound.global_bufs; callers = sound.callers; held = sound.held; marks = sound.marks }

pub counted_state : (g : Globals) (s : Setting) (f : Flat) → Sound g s.due s.marks f → state_of s (counted f) ≡ settled (state_of s f)
counted_state g s f sound = ap (λ (h : ℕ). record (state_of s f) { steps = f.steps + 1; peak = max f.peak h }) sound.held

pub settle_meets : (g : Globals) (s : Setting) (x : Flow) (y : Next) → Meets g s x y → Meets g s (settle x) (settled_next y)
settle_meets g s (Going f) y h = record { state = ap machine.Going (counted_state g s f h.sound) ∙ ap settled_next h.state; sound = counted_sound g s.due s.marks f h.sound }
settle_meets g s (Ended f) y h = record { state = ap machine.Ended (counted_state g s f h.sound) ∙ ap settled_next h.state; sound = counted_sound g s.due s.marks f h.sound }
settle_meets g s (Faulted c f) y h = record { state = ap (machine.Faulted c) (counted_state g s f h.sound) ∙ ap settled_next h.state; sound = counted_sound g s.due s.marks f h.sound }
settle_meets g s (Stuck c f) y h = record { state = ap (machine.Stuck c f.at) (counted_state g s f h.sound) ∙ ap settled_next h.state; sound = counted_sound g s.due s.marks f h.sound }
settle_meets g s (Held f) y h = tt

-- one step
pub step_meets : (g : Globals) (s : Setting) (l : Layout) (f : Flat) → s.nodes ≡ l.nodes → IsLaid g s.due l → Sound g s.due s.marks f → Marked g s 1 (flat_step l f) (step (code_for s.due l) (state_of s f))
unfolding flat_step step
step_meets g s l f same laid sound =
    let h = at_meets g s l (slice_get l.nodes f.at) f laid.rooms (ap (λ (ns : List Node). slice_get ns f.at) same)
    (λ nd e. subst (λ (m : ℕ). NodeOk g s.due m nd) (zero-add f.at) (node_at g s.due 0 f.at l.nodes nd laid.nodes e))
    (laid.beyond f.at) sound in
    record { marks = h.marks; few = h.few; meets = settle_meets g (record s { marks = h.marks }) _ _ h.meets }

-- what stands after one step, and what comes of it
rest_meets : (g : Globals) (s : Setting) (k : ℕ) (x : Flow) (y : Next) (go : Flat → Flow) (goes : State → Next) → Marked g s 1 x y → ((ms : List Place) (f : Flat) → Sound g s.due ms f → Marked g (record s { marks = ms }) k (go f) (goes (state_of (record s { marks = ms }) f))) → Marked g s (suc k) (flat_then x go) (and_then y goes)
rest_meets g s k (Going f) y go goes h ih =
    let r = ih h.marks f h.meets.sound in
    record {
      marks = r.marks;
      few = omega (arith, r.few, h.few);
      meets = along g (record s { marks = r.marks }) _ _ _ r.meets (ap (λ z. and_then z goes) h.meets.state);
    }
rest_meets g s k (Ended f) y go goes h ih = record { marks = h.marks; few = omega (arith, h.few); meets = record { state = ap (λ z. and_then z goes) h.meets.state; sound = h.meets.sound } }
rest_meets g s k (Faulted c f) y go goes h ih = record { marks = h.marks; few = omega (arith, h.few); meets = record { state = ap (λ z. and_then z goes) h.meets.state; sound = h.meets.sound } }
rest_meets g s k (Stuck c f) y go goes h ih = record { marks = h.marks; few = omega (arith, h.few); meets = record { state = ap (λ z. and_then z goes) h.meets.state; sound = h.meets.sound } }
rest_meets g s k (Held f) y go goes h ih = record { marks = h.marks; few = omega (arith, h.few); meets = tt }

-- many steps
pub run_meets : (g : Globals) (s : Setting) (l : Layout) (m : ℕ) (f : Flat) → s.nodes ≡ l.nodes → IsLaid g s.due l → Sound g s.due s.marks f → Marked g s m (flat_run l m f) (run (code_for s.due l) m (state_of s f))
run_meets g s l zero f same laid sound = record { marks = s.marks; few = omega arith; meets = record { state = refl; sound = sound } }
run_meets g s l (suc m) f same laid sound =
    rest_meets g s m (flat_step l f) (step (code_for s.due l) (state_of s f)) (flat_run l m) (run (code_for s.due l) m) (step_meets g s l f same laid sound) (λ ms h there. run_meets g (record s { marks = ms }) l m h same laid there)
