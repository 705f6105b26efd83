use Rattle.std.proofs.Common.{◌≡◌, [], refl, ap, subst, ◌∙◌, sym}
use Rattle.std.proofs.lemmas.Result.{IfOk-weaker}
use Rattle.omega_kinds.specs.declared.effect.Effect.TheVariants.{Pure}
use Rattle.omega_terms.specs.Fields.{term_row}
use Rattle.omega_terms.specs.Term.{Term, TermRow}
use Rattle.semantic_sigs.specs.Inner.Fields.{sig_row}
use Rattle.semantic_sigs.specs.Inner.Made.{module_of}
use Rattle.semantic_sigs.specs.declared.made.Module.{Module}
use Rattle.sig_definitions.specs.Signatures.Sig.{Sig, SigRow, Abs, made}
use Rattle.module_judgments.specs.Sequence.{Collected}
use Rattle.module_rules.proofs.Ended.{firsts, bound-at, never-none, name-follows, label-follows, names-next, labels-next, found-next, found-all}
use Rattle.module_rules.proofs.Options.{none-is}
use Rattle.module_rules.proofs.bindings.collected.Goals as goal

pub loop-name-init : goal.loop-name-init
loop-name-init c = record {
  names = ap firsts c.in_ok-parts.ensures;
  labels = ap firsts c.in_ok-terms.ensures;
  found = subst (λ ps. Collected c.args.env.now [] (sig_row ps) (term_row c.in_ok-terms.terms)) (sym c.in_ok-parts.ensures) (subst (λ ts. Collected c.args.env.now [] SigRow.End (term_row ts)) (sym c.in_ok-terms.ensures) Collected.none);
}

pub unreachable-requires : goal.unreachable-requires
unreachable-requires c =
    never-none c.args.env.now c.name-item.result (bound-at c.args.env.now c.args.names.now c.loop-name.name-index c.name-item.result c.name-item.result c.requires.found c.loop-name-test.true c.name-item.is) (sym (none-is c.in_ok-found.field-0 c.in_default.not-Some) ∙ c.in_ok-found.ensures)

pub push-requires : goal.push-requires
push-requires c =
    name-follows c.loop-name.parts c.args.names.now c.loop-name.name-index c.name-item.result c.in_ok-part.part c.loop-name.invariant.names c.loop-name-test.true c.name-item.is c.in_ok-part.ensures c.requires.rising

pub push-requires-in-loop-name : goal.push-requires-in-loop-name
push-requires-in-loop-name c =
    label-follows c.loop-name.terms c.args.names.now c.loop-name.name-index c.name-item.result c.in_ok-field.field c.loop-name.invariant.labels c.loop-name-test.true c.name-item.is c.in_ok-field.ensures c.requires.rising

pub loop-name-preserved : goal.loop-name-preserved
loop-name-preserved c = record {
  names = names-next c.loop-name.parts c.push.new.self c.args.names.now c.loop-name.name-index c.name-item.result c.in_ok-part.part c.in-Some.found.0 c.loop-name.invariant.names c.loop-name-test.true c.name-item.is c.in_ok-part.ensures c.in_ok-push.ensures.ok;
  labels = labels-next c.loop-name.terms c.push-in-loop-name.new.self c.args.names.now c.loop-name.name-index c.name-item.result c.in_ok-field.field c.in-Some.found.1 c.loop-name.invariant.labels c.loop-name-test.true c.name-item.is c.in_ok-field.ensures c.in_ok-push-2.ensures.ok;
  found = found-next c.args.env.now c.args.names.now c.loop-name.name-index c.loop-name.parts c.push.new.self c.loop-name.terms c.push-in-loop-name.new.self c.name-item.result c.in_ok-part.part c.in_ok-field.field c.in-Some.found.0 c.in-Some.found.1 c.loop-name.invariant.found c.loop-name-test.true c.name-item.is (sym c.in-Some.is ∙ c.in_ok-found.ensures) c.in_ok-part.ensures c.in_ok-field.ensures c.in_ok-push.ensures.ok c.in_ok-push-2.ensures.ok;
}

pub returns : goal.returns
returns c =
    IfOk-weaker _ _ (λ (m : Module). (fs : SigRow) × (es : TermRow) × Collected c.args.env.now c.args.names.now fs es × (module_of m ≡ made Pure (Abs.Ex [] (Sig.Str fs)) [] (Term.Fields es)))
    (λ m q. (sig_row c.loop-name.parts, term_row c.loop-name.terms, found-all c.args.env.now c.args.names.now c.args.names.now c.loop-name.name-index (sig_row c.loop-name.parts) (term_row c.loop-name.terms) c.loop-name.invariant.found c.loop-name-test.false refl, q)) c.finished.ensures
