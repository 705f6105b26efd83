use Rattle.std.proofs.Common.{w64, FitsSigned, rules}
use Rattle.std.proofs.lemmas.Int.{to_z-of_z}
use Rattle.semantic_sigs.specs.declared.made.Typed.{Typed}
use Rattle.core_judgments.specs.ExpRules.{LiteralGives}
use Rattle.core_rules.specs.Inner.Plain.{plain_literal}
use Rattle.core_rules.proofs.Conclusions.{both-given}
use Rattle.core_rules.proofs.expressions.literal_exp.Goals as goal

pub returns-in-Int : goal.returns-in-Int
returns-in-Int c =
    let fits : FitsSigned w64 c.in-Int.number = search rules in
    both-given (λ (o : Typed). o.ty) (λ (o : Typed). o.term) (LiteralGives (plain_literal c.args.what)) _ _ _ c.typed.ensures.ty c.typed.ensures.term (rw (c.in-Int.is, to_z-of_z w64 c.in-Int.number fits) LiteralGives.int)

pub returns-in-Bool : goal.returns-in-Bool
returns-in-Bool c =
    both-given (λ (o : Typed). o.ty) (λ (o : Typed). o.term) (LiteralGives (plain_literal c.args.what)) _ _ _ c.typed-in-Bool.ensures.ty c.typed-in-Bool.ensures.term (rw c.in-Bool.is LiteralGives.bool)

pub returns-in-Text : goal.returns-in-Text
returns-in-Text c =
    both-given (λ (o : Typed). o.ty) (λ (o : Typed). o.term) (LiteralGives (plain_literal c.args.what)) _ _ _ c.typed-in-Text.ensures.ty c.typed-in-Text.ensures.term (rw c.in-Text.is LiteralGives.text)
