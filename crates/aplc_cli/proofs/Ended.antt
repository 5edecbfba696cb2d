-- How the steps of a call make the whole.
use Rattle.std.proofs.Common.{◌≡◌, ℕ, zero, suc, ◌<◌, ◌≤◌, Bool, false, List, [], ◌∷◌, take, length, Option, None, Some, Result, Ok, Err, IfSome, refl, sym, ap, subst, ◌∙◌, inl, inr, arith, length-take-le}
use Rattle.aplc_io.specs.Outside.{more, SourceState, SinkState, HostState, Target, target_of, set_to, with, text_begun, text_with, TextNotBegun, IsFile, IsLongFile, FetchFails, sink_with}
use Rattle.aplc_io.specs.Parts.{PartOfText}
use Rattle.aplc_cprof.specs.declared.syntax.CProgram.{CProgram}
use Rattle.aplc_cprof.specs.Behaviour.{behaviour}
use Rattle.aplc_cprof.specs.WellFormed.{IsWellFormed}
use Rattle.aplc_cread.specs.declared.answer.CRefusal.{CRefusal}
use Rattle.aplc_cread.specs.declared.answer.CStop.TheVariants as c_stop
use Rattle.aplc_cread.specs.Refusal.{IsAnswer}
use Rattle.aplc_lex.specs.declared.token.Refusal.{Refusal}
use Rattle.aplc_cli.specs.declared.status.Stop.{Stop}
use Rattle.aplc_cli.specs.declared.status.Stop.TheVariants as stop
use Rattle.aplc_cli.specs.declared.words.Action.{Action}
use Rattle.aplc_cli.specs.declared.words.Action.TheVariants as action
use Rattle.aplc_cli.specs.Sources.{IsRefusedSource, too_long, source_limit}
use Rattle.aplc_cli.specs.Compiled.{HasReason, IsProgramOf, text_refusal, text_limit, too_long_text}
use Rattle.aplc_cli.specs.Words.{Command}
use Rattle.aplc_cli.specs.Came.{Came, Compiled, result_map}
use Rattle.aplc_cli.specs.Carrying.{Streams, IsInput, InputFailed, MemoryWanted, OutputFailed, Carried}
use Rattle.aplc_cli.specs.Call.{Sent, sent_for, steps_for, came_for, shown_for, Outside, streams, host_after, Matter, IsShown, Meets, RunFault, Works, Fetched, Compiles, Made, Sends, PartSent, PartHanded, HandedOver, RanText}

abbrev world : HostState → SourceState → SinkState → Outside
world h i o = record { host = h; input = i; out = o }

abbrev named : List ℕ → Action → Command
named name a = record { name = name; action = a }

-- the bytes that a source has, where it tells them
abbrev input_of : Option (List ℕ) → List ℕ
input_of None = []
input_of (Some bytes) = bytes

input_is : (t : Option (List ℕ)) → t ≡ set_to t (input_of t)
input_is None = refl
input_is (Some bytes) = refl

-- a program for those calls that have none
abbrev no_program : CProgram
no_program = record { tables = []; ints = 0; bufs = 0; functions = [] }

pub unread : (w : Outside) → Meets None w w (Err stop.Usage)
unread w = record {
  matter = record {
    file = [];
    verdict = None;
    text = [];
    program = no_program;
    input = input_of w.input.left;
    is_file = tt;
    judged = tt;
    is_input = input_is w.input.left;
  };
  answer = refl;
  host = refl;
  shown = refl;
}

-- ---- A file that is too long

zeros : ℕ → List ℕ
zeros zero = []
zeros (suc n) = 0 ∷ zeros n

length-zeros : (n : ℕ) → length (zeros n) ≡ n
unfolding zeros
length-zeros zero = refl
length-zeros (suc n) = ap suc (length-zeros n)

-- where the files are not told, some file is as long
pub long_file : (h : HostState) (name : List ℕ) (limit : ℕ) → IsLongFile h name limit → (file : List ℕ) × IsFile h name file × (limit < length file)
long_file h name limit is_long = long h.files is_long
  where
    long : (files : Option (List ℕ → Option (List ℕ))) → IfSome files (λ f. (bytes : List ℕ) × (f name ≡ Some bytes) × (limit < length bytes)) → (file : List ℕ) × IfSome files (λ f. f name ≡ Some file) × (limit < length file)
    long None t = (zeros (suc limit), tt, (let e = length-zeros (suc limit) in omega arith))
    long (Some f) t = (t.0, t.1, t.2)

-- ---- The program, well formed

pub formed_made : (name : List ℕ) (h h2 : HostState) (m : CProgram × List ℕ) → Made action.Compile name h h2 (Ok m) → IsWellFormed m.0
formed_made name h h2 m d = d.1.2.is_text.well_formed

pub formed_read : (name : List ℕ) (h h2 : HostState) (n : ℕ) (m : CProgram × List ℕ) → Made (action.Exec n) name h h2 (Ok m) → IsWellFormed m.0
formed_read name h h2 n m d = d.1.2.1.well_formed

-- ---- The text, sent

pub begun_sent : (h h2 h3 : HostState) (text : List ℕ) (run : Bool) → h2 ≡ text_begun h None run → h3 ≡ text_with h2 text → h3 ≡ host_after (Some record { target = target_of None run; bytes = text }) h
begun_sent h h2 h3 text run e f = f ∙ ap (λ (x : HostState). text_with x text) e ∙ ap (λ (t : Option (List ℕ)). record (text_begun h None run) { text = t; put = more h.put (length text) }) (set_with h.text)
  where
    set_with : (t : Option (List ℕ)) → with (set_to t []) text ≡ set_to t text
    set_with None = refl
    set_with (Some xs) = refl

pub begun_cut : (h h2 h3 : HostState) (text : List ℕ) (run : Bool) → h2 ≡ text_begun h None run → PartOfText text h2 h3 → PartSent (record { target = target_of None run; bytes = text }) h h3
begun_cut h h2 h3 text run e p =
    let sent : Sent = record { target = target_of None run; bytes = text } in
    let faults : h2.text_faults ≡ h.text_faults = ap (λ (x : HostState). x.text_faults) e in
    let taken : length (take p.count text) ≡ p.count = length-take-le p.count text (let s = p.short in omega arith) in
    let front : HostState = host_after (Some (record sent { bytes = take p.count text })) h in
    let whole : text_with h2 (take p.count text) ≡ front = begun_sent h h2 (text_with h2 (take p.count text)) (take p.count text) run e refl in
    inr record {
      count = p.count;
      short = p.short;
      rose = subst (λ n. Rattle.aplc_io.specs.Outside.Rose n h3.text_faults) faults p.rose;
      later = subst (λ n. n ≤ h3.text_faults) faults p.later;
      same =
          p.same
          ∙ ap (λ (t : Option (List ℕ)). record h2 { text = t; put = h3.put; text_faults = h3.text_faults }) p.text
          ∙ ap (λ (n : ℕ). record (text_with h2 (take p.count text)) { put = n; text_faults = h3.text_faults }) (p.put ∙ ap (more h2.put) (sym taken))
          ∙ ap {A = HostState} (λ (x : HostState). record x { text_faults = h3.text_faults }) whole;
    }

pub not_begun : (h h2 : HostState) (sent : Sent) → TextNotBegun h h2 → PartSent sent h h2
not_begun h h2 sent f = inl f

-- ---- The file, and its program

abbrev source_long : Refusal
source_long = record { number = 23; place = source_limit }

abbrev text_long : Refusal
text_long = too_long_text

module _ (name : List ℕ) (h h2 : HostState) where
  pub unfetched : (s : Stop) → Fetched source_long name h h2 (Err s) → Made action.Compile name h h2 (Err s)
  unfetched stop.Usage f = absurd f
  unfetched (stop.Refused r) f = (f.0, (f.2.0, f.2.1, subst (λ x. IsRefusedSource f.2.0 x) (sym f.1) (too_long f.2.2)))
  unfetched stop.ReadFault f = f
  unfetched stop.WriteFault f = absurd f
  unfetched stop.Memory f = f

  pub made : (file slice : List ℕ) (r : Result (CProgram × List ℕ) Stop) → h2 ≡ h → IsFile h name file → slice ≡ file → Compiles slice r → Made action.Compile name h h2 r
  made file slice (Ok m) same is_file e f = (same, (file, is_file, subst (λ (l : List ℕ). Compiles l (Ok m)) e f))
  made file slice (Err stop.Usage) same is_file e f = absurd f
  made file slice (Err (stop.Refused r)) same is_file e f = (same, (file, is_file, subst (λ (l : List ℕ). IsRefusedSource l r) e f))
  made file slice (Err stop.ReadFault) same is_file e f = absurd f
  made file slice (Err stop.WriteFault) same is_file e f = absurd f
  made file slice (Err stop.Memory) same is_file e f = same

  pub unfetched_text : (s : Stop) → Fetched text_long name h h2 (Err s) → Made (action.Exec 0) name h h2 (Err s)
  unfetched_text stop.Usage f = absurd f
  unfetched_text (stop.Refused r) f = (f.0, (f.2.0, f.2.1, inl (f.2.2, f.1)))
  unfetched_text stop.ReadFault f = f
  unfetched_text stop.WriteFault f = absurd f
  unfetched_text stop.Memory f = f

  pub text_read : (file slice : List ℕ) (p : CProgram) → h2 ≡ h → IsFile h name file → length file ≤ text_limit → slice ≡ file → IsAnswer slice (Ok p) → Made (action.Exec 0) name h h2 (Ok (p, []))
  text_read file slice p same is_file le e f = (same, (file, is_file, (le, subst (λ (l : List ℕ). IsAnswer l (Ok p)) e f)))

  pub text_refused : (file slice : List ℕ) (r : CRefusal) → h2 ≡ h → IsFile h name file → length file ≤ text_limit → slice ≡ file → IsAnswer slice (Err (c_stop.Refused r)) → Made (action.Exec 0) name h h2 (Err (stop.Refused (text_refusal r)))
  text_refused file slice r same is_file le e f = (same, (file, is_file, inr (le, (r, subst (λ (l : List ℕ). IsAnswer l (Err (c_stop.Refused r))) e f, refl))))

  pub to_run : (most : ℕ) (r : Result (CProgram × List ℕ) Stop) → Made action.Compile name h h2 r → Made (action.Run most) name h h2 r
  to_run most (Ok m) f = f
  to_run most (Err stop.Usage) f = f
  to_run most (Err (stop.Refused r)) f = f
  to_run most (Err stop.ReadFault) f = f
  to_run most (Err stop.WriteFault) f = f
  to_run most (Err stop.Memory) f = f

  pub to_execute : (most : ℕ) (r : Result (CProgram × List ℕ) Stop) → Made (action.Exec 0) name h h2 r → Made (action.Exec most) name h h2 r
  to_execute most (Ok m) f = f
  to_execute most (Err stop.Usage) f = f
  to_execute most (Err (stop.Refused r)) f = f
  to_execute most (Err stop.ReadFault) f = f
  to_execute most (Err stop.WriteFault) f = f
  to_execute most (Err stop.Memory) f = f

-- ---- The text and its run

pub unsent : (sent : Sent) (p : CProgram) (most : ℕ) (h h2 : HostState) (i : SourceState) (o : SinkState) (s : Stop) → Sends sent h h2 (Err s) → RanText (Some sent) p most (world h i o) (world h2 i o) (Err s)
unsent sent p most h h2 i o stop.Usage f = absurd f
unsent sent p most h h2 i o (stop.Refused r) f = absurd f
unsent sent p most h h2 i o stop.ReadFault f = absurd f
unsent sent p most h h2 i o stop.WriteFault f = inl (f, refl)
unsent sent p most h h2 i o stop.Memory f = absurd f

pub carried : (sent : Option Sent) (p : CProgram) (most : ℕ) (old new : Outside) (r : Result Came Stop) → new.host ≡ host_after sent old.host → Carried p most (streams old) (streams new) r → RanText sent p most old new r
carried sent p most old new (Ok came) h c = (h, c)
carried sent p most old new (Err stop.Usage) h c = (h, c)
carried sent p most old new (Err (stop.Refused r)) h c = (h, c)
carried sent p most old new (Err stop.ReadFault) h c = (h, c)
carried sent p most old new (Err stop.WriteFault) h c = inr (h, c)
carried sent p most old new (Err stop.Memory) h c = inr (h, c)

-- ---- The exits of the work

module _ (name : List ℕ) (a : Action) (h : HostState) (i : SourceState) (o : SinkState) where
  refused : (h2 : HostState) (file : List ℕ) (r : Refusal) → h2 ≡ h → IsFile h name file → HasReason a file r → Meets (Some (named name a)) (world h i o) (world h2 i o) (Err (stop.Refused r))
  refused h2 file r same is_file e = record {
    matter = record {
      file = file;
      verdict = Some r;
      text = [];
      program = no_program;
      input = input_of i.left;
      is_file = is_file;
      judged = e;
      is_input = input_is i.left;
    };
    answer = refl;
    host = same;
    shown = refl;
  }

  pub unmade : (h2 : HostState) (s : Stop) → Made a name h h2 (Err s) → Works (Some (named name a)) (world h i o) (world h2 i o) (Err s)
  unmade h2 stop.Usage f = absurd f
  unmade h2 (stop.Refused r) f = refused h2 f.1.0 r f.0 f.1.1 f.1.2
  unmade h2 stop.ReadFault f = inl record { command = named name a; is_command = refl; fails = f; rest = refl }
  unmade h2 stop.WriteFault f = absurd f
  unmade h2 stop.Memory f = inl (ap (λ (x : HostState). world x i o) f)

  module _ (file text : List ℕ) (p : CProgram) (is_file : IsFile h name file) (program : IsProgramOf a file text p) where
    abbrev matter : (input : List ℕ) → IsInput i input → Matter (Some (named name a)) (world h i o)
    matter input is_input = record { file = file; verdict = None; text = text; program = p; input = input; is_file = is_file; judged = program; is_input = is_input }

    abbrev at_hand : Matter (Some (named name a)) (world h i o)
    at_hand = matter (input_of i.left) (input_is i.left)

    part_exit : (new : Outside) (sent : Option Sent) → sent_for a text ≡ sent → PartHanded sent (world h i o) new → Works (Some (named name a)) (world h i o) new (Err stop.WriteFault)
    part_exit new None is f = absurd f
    part_exit new (Some sent) is f = inl record {
      matter = at_hand;
      sent = sent;
      is_sent = is;
      part = f.0;
      rest = ap (λ (s : Streams). world new.host s.input s.out) f.1;
    }

    -- ---- with a run

    module _ (most : ℕ) (steps_are : steps_for a ≡ Some most) (new : Outside) where
      came_exit : (came : Came) → HandedOver (sent_for a text) p most (world h i o) new (Ok came) → Works (Some (named name a)) (world h i o) new (Ok came)
      came_exit came f =
          let c = f.1 in
          let shows : shown_for (steps_for a) p c.input ≡ Some (behaviour p c.input most) = ap (λ k. shown_for k p c.input) steps_are in
          record {
            matter = matter c.input c.is_input;
            answer = ap (λ x. Ok x) c.carries.0 ∙ sym (ap (λ q. Ok (came_for q)) shows);
            host = f.0;
            shown = subst (λ q. IsShown q (record { input = i; out = o }) (streams new)) (sym shows) c.carries.1;
          }

      stopped : (Stopped : CProgram → List ℕ → ℕ → Streams → Streams → Type 0) → new.host ≡ host_after (sent_for a text) h → (input : List ℕ) (is_input : IsInput i input) → Stopped p input most (record { input = i; out = o }) (streams new) → RunFault Stopped (Some (named name a)) (world h i o) new
      stopped Stopped host input is_input f = record {
        matter = matter input is_input;
        command = named name a;
        is_command = refl;
        accepted = refl;
        most = most;
        is_run = steps_are;
        host = host;
        stopped = f;
      }

      runs_exit : (r : Result Came Stop) → RanText (sent_for a text) p most (world h i o) new r → Works (Some (named name a)) (world h i o) new r
      runs_exit (Ok came) f = came_exit came f
      runs_exit (Err stop.Usage) f = absurd f.1.carries
      runs_exit (Err (stop.Refused r)) f = absurd f.1.carries
      runs_exit (Err stop.ReadFault) f = inr (stopped InputFailed f.0 f.1.input f.1.is_input f.1.carries)
      runs_exit (Err stop.WriteFault) (inl f) = part_exit new (sent_for a text) refl f
      runs_exit (Err stop.WriteFault) (inr f) = inr (stopped OutputFailed f.0 f.1.input f.1.is_input f.1.carries)
      runs_exit (Err stop.Memory) (inl f) = inl f
      runs_exit (Err stop.Memory) (inr f) = inr (stopped MemoryWanted f.0 f.1.input f.1.is_input f.1.carries)

  pub ran : (most : ℕ) → steps_for a ≡ Some most → (m : CProgram × List ℕ) (h2 : HostState) (new : Outside) (r : Result Came Stop) → Made a name h h2 (Ok m) → RanText (sent_for a m.1) m.0 most (world h2 i o) new r → Works (Some (named name a)) (world h i o) new r
  ran most steps_are m h2 new r f g =
      runs_exit f.1.0 m.1 m.0 f.1.1 f.1.2 most steps_are new r
      (subst (λ (x : HostState). RanText (sent_for a m.1) m.0 most (world x i o) new r) f.0 g)

-- ---- without one

module _ (name : List ℕ) (h : HostState) (i : SourceState) (o : SinkState) (file text : List ℕ) (p : CProgram) (is_file : IsFile h name file) (program : IsProgramOf action.Compile file text p) where
  abbrev only : Matter (Some (named name action.Compile)) (world h i o)
  only = record { file = file; verdict = None; text = text; program = p; input = input_of i.left; is_file = is_file; judged = program; is_input = input_is i.left }

  abbrev text_sent : Sent
  text_sent = record { target = target_of None false; bytes = text }

  sends_exit : (h3 : HostState) (r : Result (Unit {0}) Stop) → Sends text_sent h h3 r → Works (Some (named name action.Compile)) (world h i o) (world h3 i o) (result_map (λ (done : Unit {0}). Compiled) r)
  sends_exit h3 (Ok done) f = record { matter = only; answer = refl; host = f; shown = refl }
  sends_exit h3 (Err stop.Usage) f = absurd f
  sends_exit h3 (Err (stop.Refused r)) f = absurd f
  sends_exit h3 (Err stop.ReadFault) f = absurd f
  sends_exit h3 (Err stop.WriteFault) f = inl record { matter = only; sent = text_sent; is_sent = refl; part = f; rest = refl }
  sends_exit h3 (Err stop.Memory) f = absurd f

pub compiled_only : (name : List ℕ) (h h2 h3 : HostState) (i : SourceState) (o : SinkState) (m : CProgram × List ℕ) (bytes : List ℕ) (r : Result (Unit {0}) Stop) → Made action.Compile name h h2 (Ok m) → bytes ≡ m.1 → Sends (record { target = target_of None false; bytes = bytes }) h2 h3 r → Works (Some (named name action.Compile)) (world h i o) (world h3 i o) (result_map (λ (done : Unit {0}). Compiled) r)
compiled_only name h h2 h3 i o m bytes r f e sends =
    sends_exit name h i o f.1.0 m.1 m.0 f.1.1 f.1.2 h3 r
    (subst (λ (l : List ℕ). Sends (record { target = target_of None false; bytes = l }) h h3 r) e (subst (λ (x : HostState). Sends (record { target = target_of None false; bytes = bytes }) x h3 r) f.0 sends))
