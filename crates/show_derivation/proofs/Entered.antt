-- What keeps a scope good, in the terms in which the code has it.
-- Main results: included, declared, recursive.
use Rattle.std.proofs.Common.{◌≡◌, ◌∷◌, [], List, sym, subst, ap, ◌∙◌}
use Rattle.omega_kinds.specs.Kind.{Kind}
use Rattle.omega_kinds.specs.Name.{Name}
use Rattle.omega_kinds.specs.declared.effect.Effect.{Effect}
use Rattle.omega_types.specs.Ty.{Ty}
use Rattle.omega_terms.specs.Term.{Term}
use Rattle.sig_definitions.specs.Env.{Env, Value, type_vars, with_module, named_fields}
use Rattle.sig_definitions.specs.Signatures.Sig.{Sig, Abs, SigRow, made}
use Rattle.sig_laws.specs.Good.{OkEnv}
use Rattle.semantic_sigs.specs.Inner.View.{body_of, kinds_of}
use Rattle.fing_syntax.specs.Phrase.{Decl, Mod, TyEx}
use Rattle.elab_judgments.specs.Operators.{include_name}
use Rattle.elab_judgments.specs.Judgments.Meaning.{DeclMeans, ModMeans, TyMeans}
use Rattle.elab_rules.specs.Inner.Fields.{fields_in}
use Rattle.elab_phrases.proofs.SigLaws.{decl-body}
use Rattle.show_envs.proofs.Entering.{good-same, with-param, with-binding, with-included, with-type, with-value, with-fix, with-part, with-declaration}

-- the empty scope is good
pub good-none : {g : Env} → g ≡ [] → OkEnv g
good-none e = subst OkEnv (sym e) tt

-- what a module includes, with the signature as the code has it
pub included : {g h n : Env} {m : Mod} {f : Effect} {y : Abs} {ts : List Ty} {d : Term} {s : Sig} {fs : SigRow} → h ≡ g → OkEnv h → ModMeans g m (made f y ts d) → s ≡ body_of y → s ≡ Sig.Str fs → n ≡ named_fields (with_module h (kinds_of y) include_name (body_of y)) fs → OkEnv n
included p o m b c e = with-included p o m (sym b ∙ c) e

-- what a declaration declares, with the fields as the code has them
pub declared : {g h i n : Env} {d : Decl} {y : Abs} {ks : List Kind} {fs : SigRow} → h ≡ g → OkEnv h → DeclMeans g d y → fs ≡ fields_in y → ks ≡ kinds_of y → i ≡ type_vars h ks → n ≡ named_fields i fs → OkEnv n
declared {y = y} p o m f k e c = with-declaration p o m (decl-body y m ∙ ap Sig.Str (sym f)) k e c

-- a recursive function and its parameter, of which the second type is elaborated after the first
pub recursive : {g p q h i n : Env} {a b : TyEx} {t u w : Ty} {k j : Kind} {f x : Name} → p ≡ g → q ≡ p → h ≡ q → OkEnv h → TyMeans g a t k → k ≡ Kind.Star → TyMeans p b u j → j ≡ Kind.Star → w ≡ Ty.Arrow t u → i ≡ Value f w ∷ h → n ≡ Value x t ∷ i → OkEnv n
recursive {a = a} {t = t} {k = k} s r v o m c d e y z b = with-fix (v ∙ r) o (subst (λ l. TyMeans l a t k) (sym s) m) c d e y z b

pub ruleset kept = (good-none, good-same)

pub ruleset entered = (with-param, with-binding, included, with-type, with-value, with-fix, with-part, declared, decl-body)
