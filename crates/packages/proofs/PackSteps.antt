-- What the calls of packages give is the conclusion of their rules, or their refusal.
-- Main results: type-shared.
use Rattle.std.specs.Prelude.{List, [], ◌≡◌}
use Rattle.std.proofs.Math.Path.{refl, sym, subst, ◌∙◌}
use Rattle.omega_kinds.specs.Kind.{Kind}
use Rattle.omega_kinds.specs.declared.effect.Effect.TheVariants.{Impure}
use Rattle.omega_types.specs.Ty.{Ty}
use Rattle.omega_types.specs.Normality.{Normal}
use Rattle.omega_types.specs.Binders.{NormalForms}
use Rattle.omega_terms.specs.Term.{Term}
use Rattle.omega_terms.specs.Shorthands.{Packs}
use Rattle.sig_definitions.specs.Signatures.Sig.{Abs, made}
use Rattle.sig_definitions.specs.Signatures.Encoding.{enc, enc_abs}
use Rattle.sig_definitions.specs.QuantifierOrder.{Norm}
use Rattle.sig_laws.specs.Good.{OkAbs, OkRight}
use Rattle.sig_laws.proofs.Encoded.EncodingLaws.{enc_well_formed-normal}
use Rattle.sig_laws.proofs.Formed.Conditions.{explicit-abs}
use Rattle.package_judgments.specs.Package.{PackTypeGives, PackGives, UnpackGives, UnpackWhy, UnpackRefuses}
use Rattle.package_laws.specs.SharedType.{IsSharedType}
use Rattle.package_laws.proofs.SharedTypes.{one_shared_type}
use Rattle.semantic_sigs.specs.Inner.View.{kinds_of}
use Rattle.omega_shorthands.specs.Inner.Packed.{Fills}

-- package types

pub type-normal : (x y : Abs) (t : Ty) → ((ctx : List Kind) → OkRight ctx x → OkRight ctx y) → t ≡ enc_abs y → (ctx : List Kind) → OkRight ctx x → Normal ctx t Kind.Star
type-normal x y t h e ctx ok = let q = h ctx ok in subst (λ u. Normal ctx u Kind.Star) (sym e) (enc_well_formed-normal (explicit-abs q.0) q.1)

pub type-given : (x y : Abs) (t : Ty) → ((ctx : List Kind) → OkRight ctx x → Norm ctx x y) → t ≡ enc_abs y → (ctx : List Kind) → OkRight ctx x → PackTypeGives ctx x t
type-given x y t h e ctx ok = subst (PackTypeGives ctx x) (sym e) (PackTypeGives.pack_type (h ctx ok))

-- the encoding of the norm is the package type of a signature
pub type-shared : (x y : Abs) (t : Ty) → ((ctx : List Kind) → OkRight ctx x → Norm ctx x y) → t ≡ enc_abs y → (ctx : List Kind) → OkRight ctx x → IsSharedType ctx x t
type-shared x y t h e ctx ok = one_shared_type ctx x t ok (type-given x y t h e ctx ok)

pub ruleset type_steps = (type-normal, type-given, type-shared)

-- packed modules

fills-own : (ctx : List Kind) (z : Abs) (ts : List Ty) → OkAbs ctx z → NormalForms ctx ts (kinds_of z) ts → Fills ctx ts (enc_abs z)
fills-own ctx (Abs.Ex ks s) ts ok f = (ks, enc s, refl, enc_well_formed-normal ok.0 ok.1, f)

pub value-given : (found coercion called term : Term) (z : Abs) (ts : List Ty) (to : Ty) → to ≡ enc_abs z → called ≡ Term.Call coercion found → ((ctx : List Kind) → Fills ctx ts to → Packs ctx ts called to term)
    → (ctx : List Kind) → OkAbs ctx z → NormalForms ctx ts (kinds_of z) ts → PackGives ctx found z ts coercion to term
value-given found coercion called term z ts to et ec h ctx ok f =
    let p : Packs ctx ts called to term = h ctx (subst (Fills ctx ts) (sym et) (fills-own ctx z ts ok f)) in
    subst (λ u. PackGives ctx found z ts coercion u term) (sym et)
    (PackGives.pack (subst (λ u. Packs ctx ts u (enc_abs z) term) ec (subst (λ u. Packs ctx ts called u term) et p)))

pub ruleset value_steps = (value-given)

-- unpacked modules

pub unpack-given : (t needed : Ty) (e : Term) (y : Abs) → t ≡ needed → needed ≡ enc_abs y → UnpackGives t e y (made Impure y [] e)
unpack-given t needed e y et en = subst (λ u. UnpackGives u e y (made Impure y [] e)) (sym (et ∙ en)) UnpackGives.unpack

pub unpack-refused : (t needed : Ty) (y : Abs) → (t ≡ needed → ⊥) → needed ≡ enc_abs y → UnpackRefuses t y (UnpackWhy.Differ t needed)
unpack-refused t needed y h en = subst (λ u. UnpackRefuses t y (UnpackWhy.Differ t u)) (sym en) (UnpackRefuses.other_type (λ e. h (e ∙ sym en)))

pub ruleset unpack_steps = (unpack-given, unpack-refused)
