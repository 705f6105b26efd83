-- The statements on typing, from the induction on derivations.
-- Main results: whole_is_typed, whole_is_never_stuck, module_is_typed, expression_is_typed.
use Rattle.std.specs.Prelude.{List, []}
use Rattle.std.proofs.Math.Path.{sym, subst}
use Rattle.omega_kinds.specs.Kind.{Kind}
use Rattle.omega_kinds.specs.declared.effect.Effect.TheVariants.{Pure}
use Rattle.omega_types.specs.Ty.{Ty}
use Rattle.omega_types.specs.Conversion.Conv.{c_sym}
use Rattle.omega_types.specs.Binders.{OfKinds, puts}
use Rattle.omega_types.proofs.Preservation.{normal-kind, kind-substitute}
use Rattle.omega_types.proofs.Hereditary.{normal-gives}
use Rattle.omega_types.proofs.BinderPuts.{types-kinds, types-substitute}
use Rattle.omega_terms.specs.Term.{Term}
use Rattle.omega_terms.specs.Typing.{HasType}
use Rattle.omega_terms.proofs.NormalTyping.{typed-sound, typed-normal}
use Rattle.omega_laws.specs.Synthesis.{Synth}
use Rattle.omega_laws.proofs.Synthesised.{exact, synth_one}
use Rattle.omega_types.proofs.LawProofs.{normal_of_normal}
use Rattle.omega_terms.proofs.TypingLaws.{good-none}
use Rattle.omega_laws.proofs.Runs.{reaches_type, reached_not_stuck}
use Rattle.sig_definitions.specs.Signatures.Sig.{Sig, Abs, made}
use Rattle.sig_definitions.specs.Signatures.SigSubst.{sig_at}
use Rattle.sig_definitions.specs.Signatures.Encoding.{enc, enc_abs}
use Rattle.sig_laws.proofs.Encoded.EncodingTyping.{good-normal}
use Rattle.sig_laws.proofs.Encoded.EnvTyping.{env-normal}
use Rattle.elab_laws.specs.Typed.{WholeIsTyped, WholeIsNormal, WholeIsNeverStuck, WholeIsSynthesised, PureModuleIsTyped, SigOfProgramIsNormal, TypeIsKinded, ExpressionIsTyped, ExpressionIsNormal, SignatureIsNormal, ModuleIsTyped, ModuleIsNormal}
use Rattle.elab_judgments.specs.Judgments.Program.{ProgramMeans}
use Rattle.elab_laws.proofs.ModuleTyping.{GoodModule, module-good, packed-typed}
use Rattle.elab_laws.proofs.Derived.{module_good}
use Rattle.elab_laws.proofs.Kept.{good_env, module-ok}
use Rattle.elab_laws.proofs.Soundness.{ty-good, exp-good, sig-good, mod-good, binds-good, program-typed}
use Rattle.sig_laws.proofs.Encoded.EncodingLaws.{enc-substitute}

-- the whole term of a program has the type of its whole signature
pub whole_is_typed : WholeIsTyped
whole_is_typed = program-typed

-- the types of a program's signature are normal
pub sig_of_program_is_normal : SigOfProgramIsNormal
sig_of_program_is_normal bs f (Abs.Ex ks s) ts e whole (ProgramMeans.program b p) = (module-good (binds-good tt tt b)).normal

-- the type that a type phrase means has its kind
pub type_is_kinded : TypeIsKinded
type_is_kinded g T t k w n h = ty-good (good_env g w n) h

-- an expression's term has its type
pub expression_is_typed : ExpressionIsTyped
expression_is_typed g E t e w n h = typed-sound (exp-good (good_env g w n) h)

-- an expression's type is normal
pub expression_is_normal : ExpressionIsNormal
expression_is_normal g E t e w n h = let v = good_env g w n in typed-normal (env-normal g v) (exp-good v h)

-- the types of a signature that a phrase means are normal
pub signature_is_normal : SignatureIsNormal
signature_is_normal g S x w n h = (sig-good (good_env g w n) h).normal

-- a module's term, with the hidden types packed into it, has the type of its signature
pub module_is_typed : ModuleIsTyped
module_is_typed g m f (Abs.Ex ks s) ts e p w n h q = typed-sound (packed-typed (mod-good (good_env g w n) h) q)

-- a module's signature is well formed and normal, and so are the types that it keeps and those in its term
pub module_is_normal : ModuleIsNormal
module_is_normal g m M w n h = module-ok (mod-good (good_env g w n) h) (module_good g w h)

-- each type in the whole term of a program is normal where it stands
pub whole_is_normal : WholeIsNormal
whole_is_normal bs f (Abs.Ex ks s) ts e whole (ProgramMeans.program b p) = packed-typed (binds-good tt tt b) p

pure-parts : {ctx ks : List Kind} {vs ts : List Ty} {s : Sig} {e : Term} → GoodModule ctx vs (made Pure (Abs.Ex ks s) ts e) → OfKinds ctx ts ks × HasType ctx vs e (enc (sig_at ts s))
pure-parts {ctx} {vs = vs} {ts = ts} {s = s} {e = e} (GoodModule.pure g n h) =
    let k = kind-substitute (puts ts Ty.Var) (types-substitute n) (normal-kind (good-normal g)) in
    (types-kinds n, subst (λ u. HasType ctx vs e u) (sym (enc-substitute (puts ts Ty.Var) s)) (HasType.conv (typed-sound h) (c_sym (normal-gives k).1)))

-- a pure module's term has the type of its signature's body at the types that it keeps
pub pure_module_is_typed : PureModuleIsTyped
pure_module_is_typed g m ks s ts e w n h = pure-parts (mod-good (good_env g w n) h)

-- no term that a program's whole term comes to is stuck
pub whole_is_never_stuck : WholeIsNeverStuck
whole_is_never_stuck bs f x ts e whole d n p r = let h = program-typed bs f x ts e whole p in (reaches_type _ h r, reached_not_stuck _ h r)

-- the type of the whole signature is the one that is synthesised for the whole term
pub whole_is_synthesised : WholeIsSynthesised
whole_is_synthesised bs f x ts e whole p =
    let h = whole_is_normal bs f x ts e whole p in
    let q = (exact (good-none [])).0 (typed-sound h) in
    let s = subst (λ t. Synth [] [] whole t) (normal_of_normal [] (enc_abs x) _ (typed-normal tt h)) q.1 in
    (s, λ t i. synth_one (good-none []) i s)
