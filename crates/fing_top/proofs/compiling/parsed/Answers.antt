use Rattle.std.proofs.Common.{List, refl, sym, subst}
use Rattle.fing_lexer.specs.declared.token.Token.{Token}
use Rattle.fing_lexer.specs.Tokens.{TokensOf}
use Rattle.elab_rules.proofs.Given.{exit}
use Rattle.fing_top.specs.Inner.Compiled.{IsRefused}
use Rattle.fing_top.specs.Meaning.{one_program}
use Rattle.fing_top.proofs.Answering.{few_tokens, lexed_refused, parsed_refused}
use Rattle.fing_top.proofs.compiling.parsed.Goals as goal

pub returns-in_err-tokens-clause-refused : goal.returns-in_err-tokens-clause-refused
returns-in_err-tokens-clause-refused c = exit (IsRefused one_program c.args.bytes.now) c.from_residual.result _ c.from_residual.ensures.1 (lexed_refused one_program c.args.bytes.now c.in_err-tokens.field-0.0 c.in_err-tokens.ensures.refused)

pub program-requires : goal.program-requires
program-requires c = few_tokens c.args.bytes.now c.deref.result.now c.requires (subst (λ (ts : List Token). TokensOf c.args.bytes.now ts) (sym c.deref.ensures.value) c.in_ok-tokens.ensures.tokens)

pub returns-in_err-program-clause-refused : goal.returns-in_err-program-clause-refused
returns-in_err-program-clause-refused c =
    let lexed = subst (λ (ts : List Token). TokensOf c.args.bytes.now ts) (sym c.deref.ensures.value) c.in_ok-tokens.ensures.tokens in
    exit (IsRefused one_program c.args.bytes.now) c.from_residual-in_err-program.result _ c.from_residual-in_err-program.ensures.1 (parsed_refused one_program c.args.bytes.now c.deref.result.now c.in_err-program.field-0.0 lexed c.in_err-program.ensures.refused)

pub returns-clause-spelled : goal.returns-clause-spelled
returns-clause-spelled c = record {
  tokens = c.deref.result.now;
  lexed = subst (λ (ts : List Token). TokensOf c.args.bytes.now ts) (sym c.deref.ensures.value) c.in_ok-tokens.ensures.tokens;
  tree = c.in_ok-program.field-0;
  phrase = c.in_ok-program.ensures.program;
  stands = refl;
}
