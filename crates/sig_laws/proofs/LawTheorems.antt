-- The laws as they are stated.
-- Main results: substitute_twice, root_kept, well_formed_kept, conv_exactly, sub_is_typed, match_is_typed.
use Rattle.std.proofs.Math.Path.{sym, subst}
use Rattle.sig_definitions.specs.Signatures.Alike.{NormalSigForm}
use Rattle.sig_laws.specs.SigLaws.{SubstituteId, SubstituteTwice, SubstituteAgree, SizeKept, PartKept, RootKept, WellFormedKept, ResultsKept, ExplicitKept, WellFormedConv, NormalSigGives, EncNormal, EncInjective, ConvExactly, ConvAbsExactly, OperatorFound}
use Rattle.sig_laws.proofs.Algebra.SigAlgebra.{substitute_sig-id, substitute-substitute_sig}
use Rattle.sig_laws.proofs.Algebra.SigMention.{substitute_sig-agree}
use Rattle.sig_laws.proofs.Algebra.SizeLaws.{size-substitute}
use Rattle.sig_laws.proofs.Algebra.PathLaws.{part-substitute}
use Rattle.sig_laws.proofs.Algebra.AlikeLaws.{form_sig-same, conv_sig-gives}
use Rattle.sig_laws.proofs.Formed.WellFormedLaws.{root-substitute, well_formed-substitute, explicit_results-substitute, explicit-substitute, well_formed-conv, well_formed-kinds}
use Rattle.sig_laws.proofs.Encoded.EncodingLaws.{enc-normal, enc-injective, enc-conv, conv-enc, enc_well_formed-conv, conv-enc_abs, enc-substitute}
use Rattle.sig_laws.proofs.Algebra.EtaLaws.{operator_found}
use Rattle.omega_types.specs.Ty.{Ty}
use Rattle.omega_types.specs.Conversion.Conv.{c_refl, c_sym, c_arrow}
use Rattle.omega_types.specs.Binders.{puts}
use Rattle.omega_types.proofs.Preservation.{normal-kind, kind-substitute}
use Rattle.omega_types.proofs.Hereditary.{normal-gives}
use Rattle.omega_types.proofs.BinderPuts.{types-kinds, types-substitute}
use Rattle.omega_terms.specs.Typing.{HasType}
use Rattle.omega_terms.proofs.NormalTyping.{typed-sound}
use Rattle.sig_definitions.specs.Signatures.Encoding.{enc}
use Rattle.sig_laws.specs.CoercionTypes.{SubIsTyped, SubAbsIsTyped, MatchIsTyped}
use Rattle.sig_laws.proofs.Encoded.EncodingTyping.{good-normal}
use Rattle.sig_laws.proofs.Encoded.CoercionTyping.{sub-typed, sub_abs-typed, match-typed}
use Rattle.sig_laws.proofs.Formed.WellFormedShape.{well_formed-good, well_formed_abs-good}
use Rattle.std.specs.Prelude.{[]}

-- the identity substitution leaves a signature as it is
pub substitute_id : SubstituteId
substitute_id s = substitute_sig-id s

-- substitutions in signatures compose
pub substitute_twice : SubstituteTwice
substitute_twice f g s = substitute-substitute_sig f g s

-- substitutions that agree on what a signature mentions do the same with it
pub substitute_agree : SubstituteAgree
substitute_agree f g s h = substitute_sig-agree f g s h

-- a substitution keeps the size of a signature
pub size_kept : SizeKept
size_kept f s = size-substitute f s

-- a path leads to the same part after a substitution
pub part_kept : PartKept
part_kept f s q p bs a = part-substitute f a

-- a substitution keeps root paths
pub root_kept : RootKept
root_kept ctx other ks s number p f h lt r = root-substitute f h lt r

-- a substitution keeps signatures well formed
pub well_formed_kept : WellFormedKept
well_formed_kept ctx other s f h w = well_formed-substitute f h w

-- a substitution keeps the results of functors ordered explicit
pub results_kept : ResultsKept
results_kept ctx other s f h w = explicit_results-substitute f h w

-- a substitution keeps signatures ordered explicit
pub explicit_kept : ExplicitKept
explicit_kept ctx other x f h w = explicit-substitute f h w

-- conversion keeps signatures well formed
pub well_formed_conv : WellFormedConv
well_formed_conv ctx s t w c = well_formed-conv w c

-- the normal form of a well formed signature is the one that the function gives
pub normal_sig_gives : NormalSigGives
normal_sig_gives ctx s n w = (λ f. form_sig-same f, λ e. subst (NormalSigForm ctx s) (sym e) (conv_sig-gives (well_formed-kinds w)))

-- the encoding of a normal and well formed signature is normal
pub enc_normal : EncNormal
enc_normal ctx s w n = enc-normal w n

-- signatures of one encoding are the same
pub enc_injective : EncInjective
enc_injective s t e = enc-injective s t e

-- well formed signatures are convertible exactly where their encodings are
pub conv_exactly : ConvExactly
conv_exactly ctx s t w v = (λ c. enc-conv w c, λ c. conv-enc w v c)

-- well formed signatures that hide types are convertible exactly where their encodings are
pub conv_abs_exactly : ConvAbsExactly
conv_abs_exactly ctx x y w v = (λ c. enc_well_formed-conv w c, λ c. conv-enc_abs w v c)

-- the one normal operator whose application to the binders' variables is a type has that type for its body
pub found_operator : OperatorFound
found_operator ctx ks t u k n m c = operator_found ks n m c

-- the coercion of subtyping has the type that leads from the left encoding to the right one
pub sub_is_typed : SubIsTyped
sub_is_typed ctx s t f w n v m a = typed-sound (sub-typed (well_formed-good w n) (well_formed-good v m) a)

-- the coercion of subtyping between signatures that hide types leads from the left encoding to the right one
pub sub_abs_is_typed : SubAbsIsTyped
sub_abs_is_typed ctx x y f w n v m a = typed-sound (sub_abs-typed (well_formed_abs-good w n) (well_formed_abs-good v m) a)

-- the coercion of matching leads to the right side's body at the types found, which have their kinds
pub match_is_typed : MatchIsTyped
match_is_typed ctx ks s t ts f w n v m a =
    let left = well_formed-good w n in
    let right = well_formed-good v m in
    let M = match-typed left right a in
    let k = kind-substitute (puts ts Ty.Var) (types-substitute M.found) (normal-kind (good-normal right)) in
    let T = λ (u : Ty). HasType ctx [] f (Ty.Arrow (enc s) u) in
    (types-kinds M.found, subst T (sym (enc-substitute (puts ts Ty.Var) t)) (HasType.conv (typed-sound M.typed) (c_arrow (c_refl (normal-kind (good-normal left))) (c_sym (normal-gives k).1))))
