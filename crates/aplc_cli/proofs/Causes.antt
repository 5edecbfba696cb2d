-- What the whole of a call says of each status.
use Rattle.std.proofs.Common.{◌≡◌, ◌⊎◌, ◌≤◌, arith, ℕ, List, [], Option, None, Some, Result, Ok, Err, IfOk, refl, sym, ap, subst, ◌∙◌, inl, inr, ⊎_elim}
use Rattle.aplc_io.specs.Outside.{SinkState, HostState, Rose, IsMissing, sink_with}
use Rattle.aplc_io.specs.Parts.{PartWritten, Tried}
use Rattle.aplc_io.proofs.Sent.{sink_with-nil}
use Rattle.aplc_cprof.specs.declared.syntax.CProgram.{CProgram}
use Rattle.aplc_names.specs.States.{Marking}
use Rattle.aplc_cprof.specs.Behaviour.{Standing, behaviour, output, IsStuck}
use Rattle.aplc_cprof.specs.Behaviour as standing
use Rattle.aplc_lex.specs.declared.token.Refusal.{Refusal}
use Rattle.aplc_cli.specs.declared.status.Stop.{Stop}
use Rattle.aplc_cli.specs.declared.status.Stop.TheVariants as stop
use Rattle.aplc_cli.specs.declared.status.Status.{Status}
use Rattle.aplc_cli.specs.declared.status.Status.TheVariants as status
use Rattle.aplc_cli.specs.declared.words.Action.{Action}
use Rattle.aplc_cli.specs.declared.words.Action.TheVariants as action
use Rattle.aplc_cli.specs.Words.{Command}
use Rattle.aplc_cli.specs.Compiled.{IsProgramOf, Judged}
use Rattle.aplc_cli.specs.Came.{Came, came_of, line, status_of, refusal_line}
use Rattle.aplc_cli.specs.Came as came
use Rattle.aplc_cli.specs.Carrying.{Streams, Shown}
use Rattle.aplc_cli.specs.Call.{Sent, sent_for, steps_for, shown_for, came_for, outcome_for, outcome_of, Outside, streams, host_after, Matter, IsShown, Meets, Works, Reports, Ends, IsMissingFile, HasReadCause, HasWriteCause, IsUsage, IsRefused, IsAccepted, IsCompiledOnly, IsRun, IsOfRun, KeepsCounts, IsAnswer, CarriesOut, Executes, AtMostOnce, KeepsText, Answers}

-- ---- Which results have a status

is_read : (r : Result Came Stop) → status_of r ≡ status.ReadFault → r ≡ Err stop.ReadFault
is_read (Ok came.Compiled) is = cc
is_read (Ok came.Ended) is = cc
is_read (Ok (came.Faulted k ps)) is = cc
is_read (Ok came.Spent) is = cc
is_read (Ok (came.Stuck c n)) is = cc
is_read (Err stop.Usage) is = cc
is_read (Err (stop.Refused r)) is = cc
is_read (Err stop.ReadFault) is = refl
is_read (Err stop.WriteFault) is = cc
is_read (Err stop.Memory) is = cc

is_write : (r : Result Came Stop) → status_of r ≡ status.WriteFault → r ≡ Err stop.WriteFault
is_write (Ok came.Compiled) is = cc
is_write (Ok came.Ended) is = cc
is_write (Ok (came.Faulted k ps)) is = cc
is_write (Ok came.Spent) is = cc
is_write (Ok (came.Stuck c n)) is = cc
is_write (Err stop.Usage) is = cc
is_write (Err (stop.Refused r)) is = cc
is_write (Err stop.ReadFault) is = cc
is_write (Err stop.WriteFault) is = refl
is_write (Err stop.Memory) is = cc

is_usage : (r : Result Came Stop) → status_of r ≡ status.Usage → r ≡ Err stop.Usage
is_usage (Ok came.Compiled) is = cc
is_usage (Ok came.Ended) is = cc
is_usage (Ok (came.Faulted k ps)) is = cc
is_usage (Ok came.Spent) is = cc
is_usage (Ok (came.Stuck c n)) is = cc
is_usage (Err stop.Usage) is = refl
is_usage (Err (stop.Refused r)) is = cc
is_usage (Err stop.ReadFault) is = cc
is_usage (Err stop.WriteFault) is = cc
is_usage (Err stop.Memory) is = cc

is_refused : (r : Result Came Stop) → status_of r ≡ status.Refused → (x : Refusal) × (r ≡ Err (stop.Refused x))
is_refused (Ok came.Compiled) is = cc
is_refused (Ok came.Ended) is = cc
is_refused (Ok (came.Faulted k ps)) is = cc
is_refused (Ok came.Spent) is = cc
is_refused (Ok (came.Stuck c n)) is = cc
is_refused (Err stop.Usage) is = cc
is_refused (Err (stop.Refused r)) is = (r, refl)
is_refused (Err stop.ReadFault) is = cc
is_refused (Err stop.WriteFault) is = cc
is_refused (Err stop.Memory) is = cc

-- the text was handed over, or carried out
abbrev IsOfText : Status → Type 0
IsOfText status.Done = Unit {0}
IsOfText s = IsOfRun s

is_came : (r : Result Came Stop) → IsOfText (status_of r) → (x : Came) × (r ≡ Ok x)
is_came (Ok x) is = (x, refl)
is_came (Err stop.Usage) is = absurd is
is_came (Err (stop.Refused r)) is = absurd is
is_came (Err stop.ReadFault) is = absurd is
is_came (Err stop.WriteFault) is = absurd is
is_came (Err stop.Memory) is = absurd is

no_compiled : (s : Standing) → came.Compiled ≡ came_of s → ⊥
no_compiled (standing.Ended o ms) is = cc
no_compiled (standing.Faulted o ms k ps) is = cc
no_compiled (standing.Going o ms) is = cc
no_compiled (standing.Stuck o ms c n) is = cc

stuck_status : (s : Standing) → status_of (Ok (came_of s)) ≡ status.Stuck → IsStuck s
stuck_status (standing.Ended o ms) is = cc
stuck_status (standing.Faulted o ms k ps) is = cc
stuck_status (standing.Going o ms) is = cc
stuck_status (standing.Stuck o ms c n) is = tt

module _ (e e2 : SinkState) (s : Status) where
  -- the line was written whole, or the status is WriteFault
  abbrev Whole : Result Came Stop → Type 0
  Whole r = (s ≡ status_of r) × (e2 ≡ sink_with e (line r))

  reported : (r : Result Came Stop) → Reports r e e2 s → Whole r ⊎ (s ≡ status.WriteFault)
  reported (Ok came.Compiled) t = ⊎_elim (λ w. inl w) (λ w. inr w.0) t
  reported (Ok came.Ended) t = ⊎_elim (λ w. inl w) (λ w. inr w.0) t
  reported (Ok (came.Faulted k ps)) t = ⊎_elim (λ w. inl w) (λ w. inr w.0) t
  reported (Ok came.Spent) t = ⊎_elim (λ w. inl w) (λ w. inr w.0) t
  reported (Ok (came.Stuck c n)) t = ⊎_elim (λ w. inl w) (λ w. inr w.0) t
  reported (Err stop.Usage) t = ⊎_elim (λ w. inl w) (λ w. inr w.0) t
  reported (Err (stop.Refused r)) t = ⊎_elim (λ w. inl w) (λ w. inr w.0) t
  reported (Err stop.ReadFault) t = ⊎_elim (λ w. inl w) (λ w. inr w.0) t
  reported (Err stop.WriteFault) t = inr t.0
  reported (Err stop.Memory) t = ⊎_elim (λ w. inl w) (λ w. inr w.0) t

  whole : (P : Status → Type 0) (r : Result Came Stop) → Reports r e e2 s → P s → (P status.WriteFault → ⊥) → Whole r
  whole P r t p never = ⊎_elim (λ w. w) (λ is. absurd (never (subst P is p))) (reported r t)

  rose_on : (a b d : ℕ) → Rose a b → b ≤ d → Rose a d
  rose_on a b d h le = omega arith

  after_part : (l m : List ℕ) (mid : SinkState) → PartWritten l e mid → Tried m mid e2 → Rose e.faults e2.faults
  after_part l m mid p (inl all) = let f : e2.faults ≡ mid.faults = ap (λ k. k.faults) all in rose_on e.faults mid.faults e2.faults p.rose (omega arith)
  after_part l m mid p (inr part) = rose_on e.faults mid.faults e2.faults p.rose part.later

  -- why the line was not written whole
  line_failed : (r : Result Came Stop) → Reports r e e2 s → Whole r ⊎ ((r ≡ Err stop.WriteFault) ⊎ Rose e.faults e2.faults)
  line_failed (Ok came.Compiled) t = ⊎_elim (λ w. inl w) (λ w. inr (inr (after_part _ _ w.1.0 w.1.1 w.1.2))) t
  line_failed (Ok came.Ended) t = ⊎_elim (λ w. inl w) (λ w. inr (inr (after_part _ _ w.1.0 w.1.1 w.1.2))) t
  line_failed (Ok (came.Faulted k ps)) t = ⊎_elim (λ w. inl w) (λ w. inr (inr (after_part _ _ w.1.0 w.1.1 w.1.2))) t
  line_failed (Ok came.Spent) t = ⊎_elim (λ w. inl w) (λ w. inr (inr (after_part _ _ w.1.0 w.1.1 w.1.2))) t
  line_failed (Ok (came.Stuck c n)) t = ⊎_elim (λ w. inl w) (λ w. inr (inr (after_part _ _ w.1.0 w.1.1 w.1.2))) t
  line_failed (Err stop.Usage) t = ⊎_elim (λ w. inl w) (λ w. inr (inr (after_part _ _ w.1.0 w.1.1 w.1.2))) t
  line_failed (Err (stop.Refused r)) t = ⊎_elim (λ w. inl w) (λ w. inr (inr (after_part _ _ w.1.0 w.1.1 w.1.2))) t
  line_failed (Err stop.ReadFault) t = ⊎_elim (λ w. inl w) (λ w. inr (inr (after_part _ _ w.1.0 w.1.1 w.1.2))) t
  line_failed (Err stop.WriteFault) t = inr (inl refl)
  line_failed (Err stop.Memory) t = ⊎_elim (λ w. inl w) (λ w. inr (inr (after_part _ _ w.1.0 w.1.1 w.1.2))) t

module _ (c : Option Command) (old new : Outside) (e e2 : SinkState) (s : Status) where
  -- ---- The causes of faults

  missing : (cmd : Command) → c ≡ Some cmd → IsMissing old.host.files cmd.name → IsMissingFile c old.host
  missing cmd is h = subst (λ k. IsMissingFile k old.host) (sym is) h

  later_rose : (a b d : ℕ) → a ≡ b → Rose b d → Rose a d
  later_rose a b d is h = subst (λ k. Rose k d) (sym is) h

  read_from : Works c old new (Err stop.ReadFault) → HasReadCause c old new
  read_from (inl w) = ⊎_elim (λ rose. inl rose) (λ none. inr (inl (missing w.command w.is_command none))) w.fails.cause
  read_from (inr w) = inr (inr (later_rose old.input.faults w.stopped.left.faults new.input.faults (sym w.stopped.read.gives.faults) w.stopped.fails.rose, w))

  read_cause : Ends c old new e e2 s → s ≡ status.ReadFault → HasReadCause c old new
  read_cause ends is =
      let w = whole e e2 s (λ t. t ≡ status.ReadFault) ends.result ends.report is (λ f. cc) in
      read_from (subst (Works c old new) (is_read ends.result (sym w.0 ∙ is)) ends.work)

  write_from : Works c old new (Err stop.WriteFault) → HasWriteCause old new e e2
  write_from (inl w) = inl (⊎_elim (λ n. n.rose) (λ n. n.rose) w.part)
  write_from (inr w) = inr (inl w.stopped.part.rose)

  write_cause : Ends c old new e e2 s → s ≡ status.WriteFault → HasWriteCause old new e e2
  write_cause ends is =
      ⊎_elim (λ w. write_from (subst (Works c old new) (is_write ends.result (sym w.0 ∙ is)) ends.work))
      (λ f. ⊎_elim (λ r. write_from (subst (Works c old new) r ends.work)) (λ rose. inr (inr rose)) f)
      (line_failed e e2 s ends.result ends.report)

  -- ---- Nothing changed

  same_world : new.host ≡ old.host → streams new ≡ streams old → new ≡ old
  same_world h t = ap (λ (x : HostState). record new { host = x }) h ∙ ap (λ (x : Streams). record old { input = x.input; out = x.out }) t

  -- ---- The words name no command

  not_usage : (q : Option Refusal) (a : Action) (text : List ℕ) (p : CProgram) (input : List ℕ) → Err stop.Usage ≡ (outcome_of q a text p input).result → ⊥
  not_usage None a text p input is = cc
  not_usage (Some r) a text p input is = cc

  usage_as : (k : Option Command) (m : Matter k old) → k ≡ c → Err stop.Usage ≡ (outcome_for k old m).result → new.host ≡ host_after (outcome_for k old m).text old.host → IsShown (outcome_for k old m).shown (streams old) (streams new) → e2 ≡ sink_with e (line (Err stop.Usage)) → IsUsage c old new e e2
  usage_as None m k is host shown l = record { command = sym k; line = l; rest = same_world host shown }
  usage_as (Some cmd) m k is host shown l = absurd (not_usage m.verdict cmd.action m.text m.program m.input is)

  usage_is : Ends c old new e e2 s → s ≡ status.Usage → IsUsage c old new e e2
  usage_is ends is =
      let w = whole e e2 s (λ t. t ≡ status.Usage) ends.result ends.report is (λ f. cc) in
      let r = is_usage ends.result (sym w.0 ∙ is) in
      let m : Meets c old new (Err stop.Usage) = subst (Works c old new) r ends.work in
      usage_as c m.matter refl m.answer m.host m.shown (w.1 ∙ ap (λ x. sink_with e (line x)) r)

  -- ---- A file was refused

  same_refusal : (q : Option Refusal) (a : Action) (text : List ℕ) (p : CProgram) (input : List ℕ) (r : Refusal) → Err (stop.Refused r) ≡ (outcome_of q a text p input).result → q ≡ Some r
  same_refusal None a text p input r is = cc
  same_refusal (Some x) a text p input r is = cc

  refused_as : (k : Option Command) (m : Matter k old) (r : Refusal) → k ≡ c → Err (stop.Refused r) ≡ (outcome_for k old m).result → new.host ≡ host_after (outcome_for k old m).text old.host → IsShown (outcome_for k old m).shown (streams old) (streams new) → e2 ≡ sink_with e (refusal_line r) → IsRefused c old new e e2
  refused_as None m r k is host shown l = cc
  refused_as (Some cmd) m r k is host shown l =
      let reason = same_refusal m.verdict cmd.action m.text m.program m.input r is in
      record {
        command = cmd;
        is_command = sym k;
        file = m.file;
        is_file = m.is_file;
        reason = r;
        is_reason = subst (λ q. Judged cmd.action m.file q m.text m.program) reason m.judged;
        line = l;
        rest = same_world
            (host ∙ ap (λ q. host_after (outcome_of q cmd.action m.text m.program m.input).text old.host) reason)
            (subst (λ q. IsShown (outcome_of q cmd.action m.text m.program m.input).shown (streams old) (streams new)) reason shown);
      }

  refused_is : Ends c old new e e2 s → s ≡ status.Refused → IsRefused c old new e e2
  refused_is ends is =
      let w = whole e e2 s (λ t. t ≡ status.Refused) ends.result ends.report is (λ f. cc) in
      let r = is_refused ends.result (sym w.0 ∙ is) in
      let m : Meets c old new (Err (stop.Refused r.0)) = subst (Works c old new) r.1 ends.work in
      refused_as c m.matter r.0 refl m.answer m.host m.shown (w.1 ∙ ap (λ x. sink_with e (line x)) r.1)

  -- ---- A file was accepted, and its program perhaps carried out

  no_refusal : (q : Option Refusal) (a : Action) (text : List ℕ) (p : CProgram) (input : List ℕ) (x : Came) → Ok x ≡ (outcome_of q a text p input).result → q ≡ None
  no_refusal None a text p input x is = refl
  no_refusal (Some r) a text p input x is = cc

  abbrev Came_to : Came → Type 0
  Came_to x = (IsCompiledOnly c old new e e2 × (x ≡ came.Compiled)) ⊎ IsRun c old new e e2 (status_of (Ok x))

  module _ (cmd : Command) (is_command : c ≡ Some cmd) (m : Matter (Some cmd) old) (program : IsProgramOf cmd.action m.file m.text m.program) (host : new.host ≡ host_after (sent_for cmd.action m.text) old.host) where
    abbrev is_accepted : IsAccepted cmd old new
    is_accepted = record {
      file = m.file;
      is_file = m.is_file;
      text = m.text;
      program = m.program;
      is_program = program;
      host = host;
    }

    compiled_only : cmd.action ≡ action.Compile → streams new ≡ streams old → e2 ≡ sink_with e [] → IsCompiledOnly c old new e e2
    compiled_only only shown l = record {
      command = cmd;
      is_command = is_command;
      accepted = is_accepted;
      only = only;
      rest = ap (λ (x : Streams). record new { input = x.input; out = x.out }) shown;
      err = l ∙ sink_with-nil e;
    }

    ran_as : (most : ℕ) (x : Came) → steps_for cmd.action ≡ Some most → x ≡ came_of (behaviour m.program m.input most) → Shown (behaviour m.program m.input most) (streams old) (streams new) → e2 ≡ sink_with e (line (Ok x)) → IsRun c old new e e2 (status_of (Ok x))
    ran_as most x is came shown l = record {
      command = cmd;
      is_command = is_command;
      accepted = is_accepted;
      most = most;
      run = is;
      input = m.input;
      is_input = m.is_input;
      shown = shown;
      status = ap (λ y. status_of (Ok y)) came;
      err = l ∙ ap (λ y. sink_with e (line (Ok y))) came;
    }

    ok_is : (r : Result Came Stop) (a b : Came) → r ≡ Ok a → r ≡ Ok b → a ≡ b
    ok_is r a b is as_well = cc

    by_steps : (most : ℕ) (x : Came) (r : Result Came Stop) → steps_for cmd.action ≡ Some most → r ≡ Ok x → r ≡ Ok (came_of (behaviour m.program m.input most)) → Shown (behaviour m.program m.input most) (streams old) (streams new) → e2 ≡ sink_with e (line (Ok x)) → Came_to x
    by_steps most x r is of came_is shown l = inr (ran_as most x is (ok_is r x (came_of (behaviour m.program m.input most)) of came_is) shown l)

    by_action : (a : Action) (x : Came) (r : Result Came Stop) → cmd.action ≡ a → r ≡ Ok x → r ≡ Ok (came_for (shown_for (steps_for a) m.program m.input)) → IsShown (shown_for (steps_for a) m.program m.input) (streams old) (streams new) → e2 ≡ sink_with e (line (Ok x)) → Came_to x
    by_action action.Compile x r is of came_is shown l =
        let only = ok_is r x came.Compiled of came_is in
        inl (compiled_only is shown (l ∙ ap (λ y. sink_with e (line (Ok y))) only), only)
    by_action (action.Run most) x r is of came_is shown l = by_steps most x r (ap steps_for is) of came_is shown l
    by_action (action.Exec most) x r is of came_is shown l = by_steps most x r (ap steps_for is) of came_is shown l

  came_as : (k : Option Command) (m : Matter k old) (x : Came) → k ≡ c → Ok x ≡ (outcome_for k old m).result → new.host ≡ host_after (outcome_for k old m).text old.host → IsShown (outcome_for k old m).shown (streams old) (streams new) → e2 ≡ sink_with e (line (Ok x)) → Came_to x
  came_as None m x k is host shown l = cc
  came_as (Some cmd) m x k is host shown l =
      let accepted = no_refusal m.verdict cmd.action m.text m.program m.input x is in
      by_action cmd (sym k) m
      (subst (λ q. Judged cmd.action m.file q m.text m.program) accepted m.judged)
      (host ∙ ap (λ q. host_after (outcome_of q cmd.action m.text m.program m.input).text old.host) accepted)
      cmd.action x (Ok x) refl refl
      (is ∙ ap (λ q. (outcome_of q cmd.action m.text m.program m.input).result) accepted)
      (subst (λ q. IsShown (outcome_of q cmd.action m.text m.program m.input).shown (streams old) (streams new)) accepted shown)
      l

  came_to : Ends c old new e e2 s → IsOfText s → (x : Came) × (s ≡ status_of (Ok x)) × Came_to x
  came_to ends is =
      let w = whole e e2 s IsOfText ends.result ends.report is (λ f. f) in
      let r = is_came ends.result (subst IsOfText w.0 is) in
      let m : Meets c old new (Ok r.0) = subst (Works c old new) r.1 ends.work in
      (r.0, w.0 ∙ ap status_of r.1, came_as c m.matter r.0 refl m.answer m.host m.shown (w.1 ∙ ap (λ x. sink_with e (line x)) r.1))

  done_by : (x : Came) → s ≡ status_of (Ok x) → Came_to x → IsCompiledOnly c old new e e2 ⊎ IsRun c old new e e2 s
  done_by x is (inl f) = inl f.0
  done_by x is (inr f) = inr (subst (IsRun c old new e e2) (sym is) f)

  done_is : Ends c old new e e2 s → s ≡ status.Done → IsCompiledOnly c old new e e2 ⊎ IsRun c old new e e2 s
  done_is ends is = let f = came_to ends (subst IsOfText (sym is) tt) in done_by f.0 f.1 f.2

  of_run : (t : Status) → IsOfRun t → IsOfText t
  of_run status.Done h = tt
  of_run status.Faulted h = h
  of_run status.Refused h = h
  of_run status.Usage h = h
  of_run status.ReadFault h = h
  of_run status.WriteFault h = h
  of_run status.Spent h = h
  of_run status.Memory h = h
  of_run status.Stuck h = h

  ran_by : (x : Came) → s ≡ status_of (Ok x) → IsOfRun s → Came_to x → IsRun c old new e e2 s
  ran_by x is h (inl f) = absurd (subst IsOfRun (is ∙ ap (λ y. status_of (Ok y)) f.1) h)
  ran_by x is h (inr f) = subst (IsRun c old new e e2) (sym is) f

  ran_is : Ends c old new e e2 s → IsOfRun s → IsRun c old new e e2 s
  ran_is ends h = let f = came_to ends (of_run s h) in ran_by f.0 f.1 h f.2

  -- ---- What was compiled is never stuck

  unmarked : Marking
  unmarked = record { held = []; swept = []; roots = [] }

  stuck_by : (a : Action) (file text : List ℕ) (p : CProgram) (most : ℕ) (input : List ℕ) → steps_for a ≡ Some most → IsProgramOf a file text p → IsStuck (behaviour p input most) → (m : ℕ) × (a ≡ action.Exec m)
  stuck_by action.Compile file text p most input steps program is = cc
  stuck_by (action.Run m) file text p most input steps program is = absurd ((program.behaves.alike unmarked input).never_stuck most is)
  stuck_by (action.Exec m) file text p most input steps program is = (m, refl)

  stuck_is : Ends c old new e e2 s → s ≡ status.Stuck → Executes c
  stuck_is ends is =
      let f = ran_is ends (subst IsOfRun (sym is) tt) in
      let k = stuck_by f.command.action f.accepted.file f.accepted.text f.accepted.program f.most f.input f.run f.accepted.is_program (stuck_status (behaviour f.accepted.program f.input f.most) (sym f.status ∙ is)) in
      subst Executes (sym f.is_command) k

  -- ---- Counts that stay

  fetch_kept : (t : Option Sent) (h : HostState) → (host_after t h).fetch_faults ≡ h.fetch_faults
  fetch_kept None h = refl
  fetch_kept (Some t) h = refl

  text_kept : (t : Option Sent) (h : HostState) → (host_after t h).text_faults ≡ h.text_faults
  text_kept None h = refl
  text_kept (Some t) h = refl

  input_kept : (q : Option Standing) → IsShown q (streams old) (streams new) → new.input.faults ≡ old.input.faults
  input_kept None h = ap (λ (x : Streams). x.input.faults) h
  input_kept (Some q) h = h.read.gives.faults

  out_kept : (q : Option Standing) → IsShown q (streams old) (streams new) → new.out.faults ≡ old.out.faults
  out_kept None h = ap (λ (x : Streams). x.out.faults) h
  out_kept (Some q) h = ap (λ (x : SinkState). x.faults) h.out

  kept : (r : Result Came Stop) → Meets c old new r → e2 ≡ sink_with e (line r) → KeepsCounts old new e e2
  kept r w is = record {
    fetch = ap (λ (x : HostState). x.fetch_faults) w.host ∙ fetch_kept _ old.host;
    text = ap (λ (x : HostState). x.text_faults) w.host ∙ text_kept _ old.host;
    input = input_kept _ w.shown;
    out = out_kept _ w.shown;
    err = ap (λ (k : SinkState). k.faults) is;
  }

  counts_from : (r : Result Came Stop) → Works c old new r → Whole e e2 s r → IsAnswer s → KeepsCounts old new e e2
  counts_from (Ok x) w t a = kept (Ok x) w t.1
  counts_from (Err stop.Usage) w t a = kept (Err stop.Usage) w t.1
  counts_from (Err (stop.Refused r)) w t a = kept (Err (stop.Refused r)) w t.1
  counts_from (Err stop.ReadFault) w t a = absurd (subst IsAnswer t.0 a)
  counts_from (Err stop.WriteFault) w t a = absurd (subst IsAnswer t.0 a)
  counts_from (Err stop.Memory) w t a = absurd (subst IsAnswer t.0 a)

  counts_kept : Ends c old new e e2 s → IsAnswer s → KeepsCounts old new e e2
  counts_kept ends a = counts_from ends.result ends.work (whole e e2 s IsAnswer ends.result ends.report a (λ f. f)) a

  -- ---- What no command without a run touches

  abbrev Untouched : Type 0
  Untouched = (new.input ≡ old.input) × (new.out ≡ old.out)

  streams_same : streams new ≡ streams old → Untouched
  streams_same h = (ap (λ (x : Streams). x.input) h, ap (λ (x : Streams). x.out) h)

  world_same : (w : Outside) → new ≡ w → streams w ≡ streams old → Untouched
  world_same w is h = streams_same (ap streams is ∙ h)

  no_run : (cmd : Command) (most : ℕ) → c ≡ Some cmd → steps_for cmd.action ≡ Some most → (CarriesOut c → ⊥) → Untouched
  no_run cmd most is steps never = absurd (never (subst CarriesOut (sym is) (most, steps)))

  accepted_quiet : (a : Action) (p : CProgram) (input : List ℕ) → (((m : ℕ) × (steps_for a ≡ Some m)) → ⊥) → IsShown (shown_for (steps_for a) p input) (streams old) (streams new) → Untouched
  accepted_quiet action.Compile p input never shown = streams_same shown
  accepted_quiet (action.Run m) p input never shown = absurd (never (m, refl))
  accepted_quiet (action.Exec m) p input never shown = absurd (never (m, refl))

  outcome_quiet : (q : Option Refusal) (a : Action) (text : List ℕ) (p : CProgram) (input : List ℕ) → (((m : ℕ) × (steps_for a ≡ Some m)) → ⊥) → IsShown (outcome_of q a text p input).shown (streams old) (streams new) → Untouched
  outcome_quiet None a text p input never shown = accepted_quiet a p input never shown
  outcome_quiet (Some r) a text p input never shown = streams_same shown

  meets_quiet : (k : Option Command) (m : Matter k old) → (CarriesOut k → ⊥) → IsShown (outcome_for k old m).shown (streams old) (streams new) → Untouched
  meets_quiet None m never shown = streams_same shown
  meets_quiet (Some cmd) m never shown = outcome_quiet m.verdict cmd.action m.text m.program m.input never shown

  quiet_from : (r : Result Came Stop) → Works c old new r → (CarriesOut c → ⊥) → Untouched
  quiet_from (Ok x) w never = meets_quiet c w.matter never w.shown
  quiet_from (Err stop.Usage) w never = meets_quiet c w.matter never w.shown
  quiet_from (Err (stop.Refused r)) w never = meets_quiet c w.matter never w.shown
  quiet_from (Err stop.ReadFault) (inl w) never = world_same (record old { host = new.host }) w.rest refl
  quiet_from (Err stop.ReadFault) (inr w) never = no_run w.command w.most w.is_command w.is_run never
  quiet_from (Err stop.WriteFault) (inl w) never = world_same (record old { host = new.host }) w.rest refl
  quiet_from (Err stop.WriteFault) (inr w) never = no_run w.command w.most w.is_command w.is_run never
  quiet_from (Err stop.Memory) (inl w) never = world_same old w refl
  quiet_from (Err stop.Memory) (inr w) never = no_run w.command w.most w.is_command w.is_run never

  untouched : Ends c old new e e2 s → (CarriesOut c → ⊥) → Untouched
  untouched ends never = quiet_from ends.result ends.work never

  -- ---- What `--exec` never touches

  abbrev NoText : Type 0
  NoText = KeepsText old.host new.host

  host_same : (h : HostState) → new.host ≡ h → KeepsText old.host h → NoText
  host_same h is kept = subst (KeepsText old.host) (sym is) kept

  same_text : KeepsText old.host old.host
  same_text = record { text = refl; target = refl; begun = refl; put = refl }

  none_sent : (a : Action) (text : List ℕ) → ((m : ℕ) × (a ≡ action.Exec m)) → sent_for a text ≡ None
  none_sent a text is = ap (λ x. sent_for x text) is.1

  nothing_sent : (q : Option Refusal) (a : Action) (text : List ℕ) (p : CProgram) (input : List ℕ) → ((m : ℕ) × (a ≡ action.Exec m)) → (outcome_of q a text p input).text ≡ None
  nothing_sent None a text p input is = none_sent a text is
  nothing_sent (Some r) a text p input is = refl

  unsent_as : (k : Option Command) (m : Matter k old) → Executes k → (outcome_for k old m).text ≡ None
  unsent_as None m is = absurd is
  unsent_as (Some cmd) m is = nothing_sent m.verdict cmd.action m.text m.program m.input is

  of_none : (t : Option Sent) → new.host ≡ host_after t old.host → t ≡ None → NoText
  of_none t is none = host_same old.host (is ∙ ap (λ x. host_after x old.host) none) same_text

  of_fault : (cmd : Command) (text : List ℕ) → c ≡ Some cmd → new.host ≡ host_after (sent_for cmd.action text) old.host → Executes c → NoText
  of_fault cmd text is host h = of_none (sent_for cmd.action text) host (none_sent cmd.action text (subst Executes is h))

  is_sent : (t : Option Sent) (sent : Sent) → t ≡ Some sent → t ≡ None → ⊥
  is_sent t sent some none = cc

  text_from : (r : Result Came Stop) → Works c old new r → Executes c → NoText
  text_from (Ok x) w h = of_none _ w.host (unsent_as c w.matter h)
  text_from (Err stop.Usage) w h = of_none _ w.host (unsent_as c w.matter h)
  text_from (Err (stop.Refused r)) w h = of_none _ w.host (unsent_as c w.matter h)
  text_from (Err stop.ReadFault) (inl w) h = host_same (record old.host { fetch_faults = new.host.fetch_faults }) w.fails.same (record { text = refl; target = refl; begun = refl; put = refl })
  text_from (Err stop.ReadFault) (inr w) h = of_fault w.command w.matter.text w.is_command w.host h
  text_from (Err stop.WriteFault) (inl w) h = absurd (is_sent _ w.sent w.is_sent (unsent_as c w.matter h))
  text_from (Err stop.WriteFault) (inr w) h = of_fault w.command w.matter.text w.is_command w.host h
  text_from (Err stop.Memory) (inl w) h = host_same old.host (ap (λ (x : Outside). x.host) w) same_text
  text_from (Err stop.Memory) (inr w) h = of_fault w.command w.matter.text w.is_command w.host h

  no_text : Ends c old new e e2 s → Executes c → NoText
  no_text ends h = text_from ends.result ends.work h

  -- ---- A text is begun once at most

  abbrev BegunOnce : HostState → Type 0
  BegunOnce h = AtMostOnce old.host.begun h.begun

  begun_as : (h : HostState) → new.host ≡ h → BegunOnce h → BegunOnce new.host
  begun_as h is once = subst BegunOnce (sym is) once

  begun_after : (t : Option Sent) → new.host ≡ host_after t old.host → BegunOnce new.host
  begun_after None is = begun_as old.host is (inl refl)
  begun_after (Some s) is = begun_as (host_after (Some s) old.host) is (inr refl)

  begun_from : (r : Result Came Stop) → Works c old new r → BegunOnce new.host
  begun_from (Ok x) w = begun_after _ w.host
  begun_from (Err stop.Usage) w = begun_after _ w.host
  begun_from (Err (stop.Refused r)) w = begun_after _ w.host
  begun_from (Err stop.ReadFault) (inl w) = begun_as (record old.host { fetch_faults = new.host.fetch_faults }) w.fails.same (inl refl)
  begun_from (Err stop.ReadFault) (inr w) = begun_after _ w.host
  begun_from (Err stop.WriteFault) (inl w) = ⊎_elim (λ n. begun_as _ n.same (inr refl)) (λ n. begun_as _ n.same (inr refl)) w.part
  begun_from (Err stop.WriteFault) (inr w) = begun_after _ w.host
  begun_from (Err stop.Memory) (inl w) = begun_as old.host (ap (λ (x : Outside). x.host) w) (inl refl)
  begun_from (Err stop.Memory) (inr w) = begun_after _ w.host

  -- ---- All of it

  pub answers : Ends c old new e e2 s → Answers c old new e e2 s
  answers ends = record {
    ends = ends;
    done = done_is ends;
    ran = ran_is ends;
    stuck = stuck_is ends;
    refused = refused_is ends;
    usage = usage_is ends;
    read_fault = read_cause ends;
    write_fault = write_cause ends;
    counts = counts_kept ends;
    untouched = untouched ends;
    no_text = no_text ends;
    begun = begun_from ends.result ends.work;
  }

  -- the two halves of a call, whose words may be spelled in another way
  pub ends_by : (k : Option Command) (r : Result Came Stop) → k ≡ c → Works k old new r → Reports r e e2 s → Ends c old new e e2 s
  ends_by k r is w t = record { result = r; work = subst (λ k. Works k old new r) is w; report = t }

-- memory was wanting before any work was done
pub wanted : (c : Option Command) (w : Outside) (e e2 : SinkState) (s : Status) (x : Stop) → x ≡ stop.Memory → Reports (Err x) e e2 s → Answers c w w e e2 s
wanted c w e e2 s x is t = answers c w w e e2 s (record { result = Err stop.Memory; work = inl refl; report = subst (λ (y : Stop). Reports (Err y) e e2 s) is t })

pub if_given : {A E : Type 0} (P Q : A → Type 0) (r : Result A E) → IfOk r P → ((x : A) → P x → Q x) → IfOk r Q
if_given P Q (Ok x) h f = f x h
if_given P Q (Err e) h f = tt
