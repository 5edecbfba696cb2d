-- Each form by one lemma over what its parts came to.
use Rattle.std.proofs.Common.{◌≡◌, ◌∙◌, ap, subst, arith}
use Rattle.std.proofs.lemmas.Bool.Decides.{nat_tests}
use Rattle.std.specs.Prelude.{IfOk, OnOk}
use Rattle.aplc_infer.specs.Seeing.{Seen, ruled, function_of}
use Rattle.aplc_infer.specs.Lookups.{context_at}
use Rattle.aplc_infer.specs.Tables.{family_of}
use Rattle.aplc_infer.proofs.Entries.{left_out_more, one_more}
use Rattle.aplc_infer.proofs.Forms.{mono_seen, dyad_seen, index_seen, change_seen, call_seen}
use Rattle.aplc_infer.proofs.seeing.+trees.Goals as goal

pub see-returns-in_ok-y-in-Mono-clause-fact : goal.see-returns-in_ok-y-in-Mono-clause-fact
see-returns-in_ok-y-in-Mono-clause-fact t c =
    subst (λ (s : Seen). IfOk c.apply_monadic.result (λ x. x ≡ s.fact))
    (mono_seen (context_at c.args.lookup.now c.args.function) (family_of c.args.tables.now) c.args.node.now c.args.walk.now c.in-Mono.f c.in-Mono.b c.get.result.now c.get-in-Mono.result.now c.in_ok-y-in-Mono.y c.see.new.walk c.in-Mono.is c.get.ensures c.get-in-Mono.ensures c.in_ok-y-in-Mono.ensures.fact c.in_ok-y-in-Mono.ensures.walk)
    c.apply_monadic.ensures.fact

pub see-returns-in_ok-y-in-Mono-clause-walk : goal.see-returns-in_ok-y-in-Mono-clause-walk
see-returns-in_ok-y-in-Mono-clause-walk t c =
    subst (λ (s : Seen). OnOk c.apply_monadic.result (c.apply_monadic.new.walk ≡ s.progress))
    (mono_seen (context_at c.args.lookup.now c.args.function) (family_of c.args.tables.now) c.args.node.now c.args.walk.now c.in-Mono.f c.in-Mono.b c.get.result.now c.get-in-Mono.result.now c.in_ok-y-in-Mono.y c.see.new.walk c.in-Mono.is c.get.ensures c.get-in-Mono.ensures c.in_ok-y-in-Mono.ensures.fact c.in_ok-y-in-Mono.ensures.walk)
    c.apply_monadic.ensures.walk

pub see-returns-in_ok-x-in-Dyad-clause-fact : goal.see-returns-in_ok-x-in-Dyad-clause-fact
see-returns-in_ok-x-in-Dyad-clause-fact t c =
    subst (λ (s : Seen). IfOk c.apply_dyadic.result (λ x. x ≡ s.fact))
    (dyad_seen (context_at c.args.lookup.now c.args.function) (family_of c.args.tables.now) c.args.node.now c.args.walk.now c.in-Dyad.f c.in-Dyad.a c.in-Dyad.b c.get-in-Dyad.result.now c.get-in-Dyad-2.result.now c.get-in-Dyad-3.result.now c.in_ok-y-in-Dyad.y c.in_ok-x-in-Dyad.x c.see-in-Dyad.new.walk c.see-in-Dyad-2.new.walk c.in-Dyad.is c.get-in-Dyad.ensures c.get-in-Dyad-2.ensures c.get-in-Dyad-3.ensures c.in_ok-y-in-Dyad.ensures.fact c.in_ok-y-in-Dyad.ensures.walk c.in_ok-x-in-Dyad.ensures.fact c.in_ok-x-in-Dyad.ensures.walk)
    c.apply_dyadic.ensures.fact

pub see-returns-in_ok-x-in-Dyad-clause-walk : goal.see-returns-in_ok-x-in-Dyad-clause-walk
see-returns-in_ok-x-in-Dyad-clause-walk t c =
    subst (λ (s : Seen). OnOk c.apply_dyadic.result (c.apply_dyadic.new.walk ≡ s.progress))
    (dyad_seen (context_at c.args.lookup.now c.args.function) (family_of c.args.tables.now) c.args.node.now c.args.walk.now c.in-Dyad.f c.in-Dyad.a c.in-Dyad.b c.get-in-Dyad.result.now c.get-in-Dyad-2.result.now c.get-in-Dyad-3.result.now c.in_ok-y-in-Dyad.y c.in_ok-x-in-Dyad.x c.see-in-Dyad.new.walk c.see-in-Dyad-2.new.walk c.in-Dyad.is c.get-in-Dyad.ensures c.get-in-Dyad-2.ensures c.get-in-Dyad-3.ensures c.in_ok-y-in-Dyad.ensures.fact c.in_ok-y-in-Dyad.ensures.walk c.in_ok-x-in-Dyad.ensures.fact c.in_ok-x-in-Dyad.ensures.walk)
    c.apply_dyadic.ensures.walk

pub see-returns-in_ok-x-in-Index-clause-fact : goal.see-returns-in_ok-x-in-Index-clause-fact
see-returns-in_ok-x-in-Index-clause-fact t c =
    subst (λ (s : Seen). IfOk c.apply_rule.result (λ x. x ≡ s.fact))
    (index_seen (context_at c.args.lookup.now c.args.function) (family_of c.args.tables.now) c.args.node.now c.args.walk.now c.in-Index.a c.get-in-Index.result.now c.in-Index.entries c.as_slice-list.result.now c.in_ok-fs-in-Index.fs.items c.as_slice-in-Index.result.now c.in_ok-x-in-Index.x c.see_entries.new.walk c.see-in-Index.new.walk c.in-Index.is c.as_slice-list.ensures c.get-in-Index.ensures c.as_slice-in-Index.ensures.value c.in_ok-fs-in-Index.ensures.facts c.in_ok-fs-in-Index.ensures.walk c.in_ok-x-in-Index.ensures.fact c.in_ok-x-in-Index.ensures.walk)
    (subst (λ r. IfOk c.apply_rule.result (λ x. x ≡ (ruled c.args.node.now.id.0 c.args.node.now.place r c.see-in-Index.new.walk).fact)) c.index_fact-ruled.ensures c.apply_rule.ensures.fact)

pub see-returns-in_ok-x-in-Index-clause-walk : goal.see-returns-in_ok-x-in-Index-clause-walk
see-returns-in_ok-x-in-Index-clause-walk t c =
    subst (λ (s : Seen). OnOk c.apply_rule.result (c.apply_rule.new.walk ≡ s.progress))
    (index_seen (context_at c.args.lookup.now c.args.function) (family_of c.args.tables.now) c.args.node.now c.args.walk.now c.in-Index.a c.get-in-Index.result.now c.in-Index.entries c.as_slice-list.result.now c.in_ok-fs-in-Index.fs.items c.as_slice-in-Index.result.now c.in_ok-x-in-Index.x c.see_entries.new.walk c.see-in-Index.new.walk c.in-Index.is c.as_slice-list.ensures c.get-in-Index.ensures c.as_slice-in-Index.ensures.value c.in_ok-fs-in-Index.ensures.facts c.in_ok-fs-in-Index.ensures.walk c.in_ok-x-in-Index.ensures.fact c.in_ok-x-in-Index.ensures.walk)
    (subst (λ r. OnOk c.apply_rule.result (c.apply_rule.new.walk ≡ (ruled c.args.node.now.id.0 c.args.node.now.place r c.see-in-Index.new.walk).progress)) c.index_fact-ruled.ensures c.apply_rule.ensures.walk)

pub see-returns-in_ok-fs-in-AssignAt-clause-fact : goal.see-returns-in_ok-fs-in-AssignAt-clause-fact
see-returns-in_ok-fs-in-AssignAt-clause-fact t c =
    subst (λ (s : Seen). IfOk c.change_name.result (λ x. x ≡ s.fact))
    (change_seen (context_at c.args.lookup.now c.args.function) (family_of c.args.tables.now) c.args.node.now c.args.walk.now c.in-AssignAt.name c.in-AssignAt.a c.get-in-AssignAt.result.now c.in-AssignAt.entries c.as_slice-list-in-AssignAt.result.now c.in_ok-fs-in-AssignAt.fs.items c.as_slice-in-AssignAt.result.now c.in_ok-y-in-AssignAt.y c.name_fact-old.result c.see-in-AssignAt.new.walk c.see_entries-in-AssignAt.new.walk c.in-AssignAt.is c.get-in-AssignAt.ensures c.as_slice-list-in-AssignAt.ensures c.as_slice-in-AssignAt.ensures.value c.in_ok-y-in-AssignAt.ensures.fact c.in_ok-y-in-AssignAt.ensures.walk c.in_ok-fs-in-AssignAt.ensures.facts c.in_ok-fs-in-AssignAt.ensures.walk c.name_fact-old.ensures)
    c.change_name.ensures.fact

pub see-returns-in_ok-fs-in-AssignAt-clause-walk : goal.see-returns-in_ok-fs-in-AssignAt-clause-walk
see-returns-in_ok-fs-in-AssignAt-clause-walk t c =
    subst (λ (s : Seen). OnOk c.change_name.result (c.change_name.new.walk ≡ s.progress))
    (change_seen (context_at c.args.lookup.now c.args.function) (family_of c.args.tables.now) c.args.node.now c.args.walk.now c.in-AssignAt.name c.in-AssignAt.a c.get-in-AssignAt.result.now c.in-AssignAt.entries c.as_slice-list-in-AssignAt.result.now c.in_ok-fs-in-AssignAt.fs.items c.as_slice-in-AssignAt.result.now c.in_ok-y-in-AssignAt.y c.name_fact-old.result c.see-in-AssignAt.new.walk c.see_entries-in-AssignAt.new.walk c.in-AssignAt.is c.get-in-AssignAt.ensures c.as_slice-list-in-AssignAt.ensures c.as_slice-in-AssignAt.ensures.value c.in_ok-y-in-AssignAt.ensures.fact c.in_ok-y-in-AssignAt.ensures.walk c.in_ok-fs-in-AssignAt.ensures.facts c.in_ok-fs-in-AssignAt.ensures.walk c.name_fact-old.ensures)
    c.change_name.ensures.walk

pub see-returns-in_ok-x-in-Call-clause-fact : goal.see-returns-in_ok-x-in-Call-clause-fact
see-returns-in_ok-x-in-Call-clause-fact t c =
    subst (λ (s : Seen). IfOk c.call.result (λ x. x ≡ s.fact))
    (call_seen (context_at c.args.lookup.now c.args.function) (family_of c.args.tables.now) c.args.node.now c.args.walk.now c.in-Call.name c.in-Call.a c.in-Call.b c.function_of-called.result c.in_ok-x-in-Call.x c.in_ok-y-in-Call.y c.see_argument.new.walk c.see_argument-in-Call.new.walk c.in-Call.is (c.function_of-called.ensures ∙ ap function_of c.binding.ensures) c.in_ok-y-in-Call.ensures.fact c.in_ok-y-in-Call.ensures.walk c.in_ok-x-in-Call.ensures.fact c.in_ok-x-in-Call.ensures.walk)
    c.call.ensures.fact

pub see-returns-in_ok-x-in-Call-clause-walk : goal.see-returns-in_ok-x-in-Call-clause-walk
see-returns-in_ok-x-in-Call-clause-walk t c =
    subst (λ (s : Seen). OnOk c.call.result (c.call.new.walk ≡ s.progress))
    (call_seen (context_at c.args.lookup.now c.args.function) (family_of c.args.tables.now) c.args.node.now c.args.walk.now c.in-Call.name c.in-Call.a c.in-Call.b c.function_of-called.result c.in_ok-x-in-Call.x c.in_ok-y-in-Call.y c.see_argument.new.walk c.see_argument-in-Call.new.walk c.in-Call.is (c.function_of-called.ensures ∙ ap function_of c.binding.ensures) c.in_ok-y-in-Call.ensures.fact c.in_ok-y-in-Call.ensures.walk c.in_ok-x-in-Call.ensures.fact c.in_ok-x-in-Call.ensures.walk)
    c.call.ensures.walk

pub see_entries-loop-left-preserved-in-Continue-1 : goal.see_entries-loop-left-preserved-in-Continue-1
see_entries-loop-left-preserved-in-Continue-1 t c =
    left_out_more (context_at c.args.lookup.now c.args.function) (family_of c.args.tables.now) c.args.entries.now c.args.walk.now c.loop-left.left c.loop-left.facts.items c.push.new.self.items c.loop-left.walk c.index-entries-left.result c.loop-left.invariant (grind (arith, nat_tests)) c.index-entries-left.is c.in-None.is c.in_ok-push-in-None.ensures.items

pub see_entries-loop-left-preserved : goal.see_entries-loop-left-preserved
see_entries-loop-left-preserved t c =
    one_more (context_at c.args.lookup.now c.args.function) (family_of c.args.tables.now) c.args.entries.now c.args.walk.now c.loop-left.left c.loop-left.facts.items c.push-in-Some.new.self.items c.loop-left.walk c.see.new.walk c.index-entries-left.result c.in-Some.node c.in_ok-fact-in-Some.fact c.loop-left.invariant (grind (arith, nat_tests)) c.index-entries-left.is c.in-Some.is c.in_ok-fact-in-Some.ensures.fact c.in_ok-fact-in-Some.ensures.walk c.in_ok-push-in-Some.ensures.items
