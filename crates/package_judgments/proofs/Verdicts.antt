-- Each rule of packages has exactly one conclusion or exactly one refusal.
-- Main results: one_pack_type, one_pack, one_unpack.
use Rattle.std.specs.Prelude.{List, [], ◌≡◌, ◌≢◌}
use Rattle.std.proofs.Math.Path.{refl, sym, subst, ap, ◌∙◌}
use Rattle.omega_kinds.specs.Kind.{Kind}
use Rattle.omega_kinds.specs.declared.effect.Effect.TheVariants.{Impure}
use Rattle.omega_types.specs.Ty.{Ty}
use Rattle.omega_types.proofs.BinderPuts.{forms-kinds, forms-normal}
use Rattle.omega_terms.specs.Term.{Term}
use Rattle.omega_terms.specs.Shorthands.{Packs}
use Rattle.sig_definitions.specs.Signatures.Sig.{Sig, Abs, Module, made}
use Rattle.sig_definitions.specs.Signatures.Encoding.{enc, enc_abs}
use Rattle.sig_definitions.specs.QuantifierOrder.{Norm}
use Rattle.sig_definitions.specs.Matching.Subtyping.{Match}
use Rattle.sig_definitions.specs.Verdict.{Verdict, holds, refuses, One}
use Rattle.sig_laws.specs.Good.{OkRight}
use Rattle.sig_laws.specs.Decide.{dec_ty}
use Rattle.sig_laws.proofs.Encoded.EncodingLaws.{enc_well_formed-normal}
use Rattle.sig_laws.proofs.Formed.Conditions.{explicit-abs}
use Rattle.sig_laws.proofs.Formed.Forms.{pair-same}
use Rattle.sig_norm_laws.proofs.NormClaims.{norm-one}
use Rattle.sig_premise_laws.proofs.Terms.{packs-one}
use Rattle.package_judgments.specs.Package.{PackTypeGives, PackGives, UnpackGives, UnpackWhy, Differ, UnpackRefuses}
use Rattle.package_judgments.specs.OneOutcome.{OnePackType, OnePack, OneUnpack}

-- a package type is the encoding of a norm
pub pack_type-view : {ctx : List Kind} {x : Abs} {t : Ty} → PackTypeGives ctx x t → (y : Abs) × Norm ctx x y × (t ≡ enc_abs y)
pack_type-view (PackTypeGives.pack_type {y = y} n) = (y, n, refl)

-- a signature has exactly one package type
pub one_pack_type : OnePackType
one_pack_type ctx x h =
    let n = norm-one ctx x h in
    (enc_abs n.0, PackTypeGives.pack_type n.1, λ t g. let v = pack_type-view g in v.2 ∙ ap enc_abs (n.2 v.0 v.1))

pack-view : {ctx : List Kind} {e c : Term} {z : Abs} {ts : List Ty} (o : Ty × Term) → PackGives ctx e z ts c o.0 o.1 → (o.0 ≡ enc_abs z) × Packs ctx ts (Term.Call c e) (enc_abs z) o.1
pack-view _ (PackGives.pack p) = (refl, p)

-- the rule of packages has exactly one conclusion
pub one_pack : OnePack
one_pack ctx ks s e ts c h n =
    let p = packs-one (Term.Call c e) (enc s) (forms-kinds n) (enc_well_formed-normal h.0 h.1) in
    ((enc_abs (Abs.Ex ks s), p.0), PackGives.pack p.1, λ o g. let v = pack-view o g in pair-same o v.0 (p.2 o.1 v.1))

-- the rule of packages has exactly one conclusion at the types of a match
pub one_pack_matched : (ctx : List Kind) (s : Sig) (e : Term) (z : Abs) (ts : List Ty) (c : Term) → OkRight ctx z → Match ctx s z ts c → One (λ (o : Ty × Term). PackGives ctx e z ts c o.0 o.1)
one_pack_matched ctx s e (Abs.Ex ks t) ts c h (Match.at g n r f) = one_pack ctx ks t e ts c (explicit-abs h.0, h.1) (forms-normal n)

unpack-only : {t : Ty} {e : Term} {y : Abs} (m : Module) → UnpackGives t e y m → (t ≡ enc_abs y) × (m ≡ made Impure y [] e)
unpack-only _ UnpackGives.unpack = (refl, refl)

unpack-refused : {t : Ty} {y : Abs} {why : UnpackWhy} → UnpackRefuses t y why → (t ≢ enc_abs y) × (why ≡ Differ t (enc_abs y))
unpack-refused (UnpackRefuses.other_type n) = (n, refl)

-- the rule of unpacking has exactly one conclusion or one refusal
pub one_unpack : OneUnpack
one_unpack t e y = go (dec_ty t (enc_abs y))
  where
    go : Dec (t ≡ enc_abs y) → Verdict (UnpackGives t e y) (UnpackRefuses t y)
    go (yes i) = holds (made Impure y [] e) (subst (λ t. UnpackGives t e y (made Impure y [] e)) (sym i) UnpackGives.unpack) (λ m g. (unpack-only m g).1) (λ why r. (unpack-refused r).0 i)
    go (no n) = refuses (Differ t (enc_abs y)) (UnpackRefuses.other_type n) (λ why r. (unpack-refused r).1) (λ m g. n (unpack-only m g).0)
