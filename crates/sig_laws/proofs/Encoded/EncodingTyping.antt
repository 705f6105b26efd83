-- The encoding goes with renaming, substitution and normal forms. What it needs of a signature is that the names of each
-- structure differ; that the result of a pure functor hides nothing is kept beside it.
-- Main results: enc-normal, enc-form, good-normal, good-rename, enc-field.
use Rattle.std.specs.Prelude.{ℕ, suc, List, [], ◌∷◌, ◌≢◌, zero}
use Rattle.std.proofs.Math.Path.{ap}
use Rattle.omega_kinds.specs.Kind.{Kind}
use Rattle.omega_kinds.specs.declared.label.Label.{Label}
use Rattle.omega_kinds.specs.declared.effect.Effect.{Effect}
use Rattle.omega_kinds.specs.declared.effect.Effect.TheVariants.{Pure, Impure}
use Rattle.omega_kinds.specs.Name.{Name}
use Rattle.omega_types.specs.Ty.{Ty}
use Rattle.omega_types.specs.Kinding.{Fresh, here}
use Rattle.omega_types.specs.Kinding.HasKind.{k_var}
use Rattle.omega_types.specs.Conversion.{Conv, Convs}
use Rattle.omega_types.specs.Conversion.Conv.{c_refl, c_arrow, c_fields, c_all, c_apply}
use Rattle.omega_types.specs.Conversion.Convs.{c_end, c_more}
use Rattle.omega_types.specs.Normality.{Normal, Normals, n_apply, n_var}
use Rattle.omega_types.specs.Normality.Normal.{n_arrow, n_fields, n_all, n_neutral}
use Rattle.omega_types.specs.Normality.Normals.{n_end, n_more}
use Rattle.omega_types.specs.Normalises.{Maps, NormalForm}
use Rattle.omega_types.proofs.Preservation.{maps-suc, conv-rename, normal-rename}
use Rattle.omega_types.proofs.BinderPuts.{all_over-normal, ex_over-normal, conv-all_over, conv-ex_over}
use Rattle.omega_terms.specs.Typing.{HasPart}
use Rattle.omega_terms.specs.Coercions.{result_label}
use Rattle.sig_definitions.specs.Signatures.Sig.{Sig, Abs, SigRow, HasField, NoField}
use Rattle.sig_definitions.specs.Signatures.SigSubst.{rename_sig, rename_abs, rename_sig_row, substitute_sig, substitute_abs}
use Rattle.sig_definitions.specs.Signatures.Alike.{Between, AlikeSig, AlikeAbs, AlikeRow, NormalSigForm, NormalAbsForm, NormalSig, NormalAbs, NormalSigRow}
use Rattle.sig_definitions.specs.Signatures.Encoding.{enc, enc_abs, enc_row, one_part, shown_type}
use Rattle.sig_laws.specs.Good.{Distinct, DistinctAbs, DistinctRow}
use Rattle.sig_laws.proofs.Algebra.AlikeLaws.{form_sig-normal, form_abs-normal, normal_sig-rename, alike-sym_abs, alike-substitute, alike_abs-substitute, alike-rename, alike_abs-rename, alike_row-rename}
use Rattle.omega_types.specs.Substitution.{rename}

-- shapes

-- the result of a pure functor hides nothing
abbrev pub Hides : Effect → Abs → Type 0
Hides Impure x = Unit {0}
Hides Pure (Abs.Ex [] s) = Unit {0}
Hides Pure (Abs.Ex (k ∷ ks) s) = ⊥

abbrev mutual
  -- the names of each structure differ, and the result of each pure functor hides nothing
  pub Shape : Sig → Type 0
  Shape (Sig.Val t) = Unit {0}
  Shape (Sig.Typ t k) = Unit {0}
  Shape (Sig.Meta x) = ShapeAbs x
  Shape (Sig.Str fs) = ShapeRow fs
  Shape (Sig.Fun e ks s x) = Shape s × ShapeAbs x × Hides e x

  -- in a signature that hides types names differ, and the result of each pure functor hides nothing
  pub ShapeAbs : Abs → Type 0
  ShapeAbs (Abs.Ex ks s) = Shape s

  -- in the fields of a structure names differ, and the result of each pure functor hides nothing
  pub ShapeRow : SigRow → Type 0
  ShapeRow SigRow.End = Unit {0}
  ShapeRow (SigRow.More l s rest) = NoField l rest × Shape s × ShapeRow rest

-- signatures of one shape

no_field-alike : {R : Between} {ctx : List Kind} {fs gs : SigRow} (l : Name) → AlikeRow R ctx fs gs → NoField l fs → NoField l gs
no_field-alike l AlikeRow.end h = tt
no_field-alike l (AlikeRow.more a b) h = (h.0, no_field-alike l b h.1)

hides-alike : {R : Between} {ctx : List Kind} {x y : Abs} (e : Effect) → AlikeAbs R ctx x y → Hides e x → Hides e y
hides-alike Impure a h = tt
hides-alike Pure (AlikeAbs.ex {ks = []} a) h = tt
hides-alike Pure (AlikeAbs.ex {ks = k ∷ ks} a) h = h

mutual
  -- a signature has the shape of one that is like it
  pub shape-alike : {R : Between} {ctx : List Kind} {s t : Sig} → AlikeSig R ctx s t → Shape s → Shape t
  shape-alike (AlikeSig.val a) h = tt
  shape-alike (AlikeSig.typ a) h = tt
  shape-alike (AlikeSig.meta a) h = shape_abs-alike a h
  shape-alike (AlikeSig.str a) h = shape_row-alike a h
  shape-alike (AlikeSig.fun {e = e} a b) h = (shape-alike a h.0, shape_abs-alike b h.1, hides-alike e b h.2)

  -- a signature that hides types has the shape of one that is like it
  pub shape_abs-alike : {R : Between} {ctx : List Kind} {x y : Abs} → AlikeAbs R ctx x y → ShapeAbs x → ShapeAbs y
  shape_abs-alike (AlikeAbs.ex a) h = shape-alike a h

  pub shape_row-alike : {R : Between} {ctx : List Kind} {fs gs : SigRow} → AlikeRow R ctx fs gs → ShapeRow fs → ShapeRow gs
  shape_row-alike AlikeRow.end h = tt
  shape_row-alike (AlikeRow.more {l = l} a b) h = (no_field-alike l b h.0, shape-alike a h.1, shape_row-alike b h.2)

-- a signature has the shape of one that it is like (names differ, and results of pure functors hide nothing)
pub shape_abs-unalike : {R : Between} {ctx : List Kind} {x y : Abs} → AlikeAbs R ctx x y → ShapeAbs y → ShapeAbs x
shape_abs-unalike {R} a h = shape_abs-alike (alike-sym_abs {S = λ c t k u. R c u k t} (λ c t k u r. r) a) h

-- so substitution and renaming keep the shape

-- a substitution keeps the shape of a signature
pub shape-substitute : (f : ℕ → Ty) (s : Sig) → Shape s → Shape (substitute_sig f s)
shape-substitute f s h = shape-alike (alike-substitute [] f s) h

-- a substitution keeps the shape of a signature that hides types
pub shape_abs-substitute : (f : ℕ → Ty) (x : Abs) → ShapeAbs x → ShapeAbs (substitute_abs f x)
shape_abs-substitute f x h = shape_abs-alike (alike_abs-substitute [] f x) h

-- a renaming of types gives a structure no more names
pub no_field-rename : (r : ℕ → ℕ) (l : Name) (fs : SigRow) → NoField l fs → NoField l (rename_sig_row r fs)
no_field-rename r l fs h = no_field-alike l (alike_row-rename [] r fs) h

-- a renaming keeps the shape of a signature
pub shape-rename : (r : ℕ → ℕ) (s : Sig) → Shape s → Shape (rename_sig r s)
shape-rename r s h = shape-alike (alike-rename [] r s) h

-- a renaming keeps the shape of a signature that hides types
pub shape_abs-rename : (r : ℕ → ℕ) (x : Abs) → ShapeAbs x → ShapeAbs (rename_abs r x)
shape_abs-rename r x h = shape_abs-alike (alike_abs-rename [] r x) h

-- a renaming keeps the shape of the fields of a structure
pub shape_row-rename : (r : ℕ → ℕ) (fs : SigRow) → ShapeRow fs → ShapeRow (rename_sig_row r fs)
shape_row-rename r fs h = shape_row-alike (alike_row-rename [] r fs) h

-- a signature whose renaming has the shape has it too
pub shape_abs-unrename : (r : ℕ → ℕ) (x : Abs) → ShapeAbs (rename_abs r x) → ShapeAbs x
shape_abs-unrename r x h = shape_abs-unalike (alike_abs-rename [] r x) h

-- the encoding of a normal signature is normal

name_of_label : Label → Name
name_of_label (Label.Name l) = l
name_of_label l = []

-- different names are different labels
pub name-differs : {l m : Name} → l ≢ m → Label.Name l ≢ Label.Name m
unfolding name_of_label
name-differs d e = d (ap name_of_label e)

-- a name that has no field is a fresh label of the encoded fields
pub fresh-row : (l : Name) (fs : SigRow) → NoField l fs → Fresh (Label.Name l) (enc_row fs)
fresh-row l SigRow.End h = tt
fresh-row l (SigRow.More m s rest) h = (name-differs h.0, fresh-row l rest h.1)

-- a record type of one field of a normal type is normal
pub one_part-normal : {ctx : List Kind} {t : Ty} (l : Label) → Normal ctx t Kind.Star → Normal ctx (one_part l t) Kind.Star
one_part-normal l h = n_fields (n_more tt h n_end)

-- the type that shows a normal type is normal
pub shown_type-normal : {ctx : List Kind} {t : Ty} {k : Kind} → Normal ctx t k → Normal ctx (shown_type t k) Kind.Star
shown_type-normal {ctx} {t} {k} h = n_all (n_arrow u u)
  where
    u : Normal (Kind.Arrow k Kind.Star ∷ ctx) (Ty.Apply (Ty.Var zero) (rename suc t)) Kind.Star
    u = n_neutral (n_apply (n_var here) (normal-rename suc (maps-suc (Kind.Arrow k Kind.Star) ctx) h))

mutual
  -- the encoding of a normal signature whose structures' names differ is normal
  pub distinct-normal : {ctx : List Kind} (s : Sig) → Distinct s → NormalSig ctx s → Normal ctx (enc s) Kind.Star
  distinct-normal (Sig.Val t) d n = one_part-normal Label.Val n
  distinct-normal (Sig.Typ t k) d n = one_part-normal Label.Typ (shown_type-normal n)
  distinct-normal (Sig.Meta x) d n = let m = distinct_abs-normal x d n in one_part-normal Label.Sig (n_arrow m m)
  distinct-normal (Sig.Str fs) d n = n_fields (distinct_row-normal fs d n)
  distinct-normal (Sig.Fun e ks s x) d n = all_over-normal ks (n_arrow (distinct-normal s d.0 n.0) (one_part-normal (result_label e) (distinct_abs-normal x d.1 n.1)))

  -- the encoding of a normal signature that hides types whose structures' names differ is normal
  pub distinct_abs-normal : {ctx : List Kind} (x : Abs) → DistinctAbs x → NormalAbs ctx x → Normal ctx (enc_abs x) Kind.Star
  distinct_abs-normal (Abs.Ex ks s) d n = ex_over-normal ks (distinct-normal s d n)

  distinct_row-normal : {ctx : List Kind} (fs : SigRow) → DistinctRow fs → NormalSigRow ctx fs → Normals ctx (enc_row fs)
  distinct_row-normal SigRow.End d n = n_end
  distinct_row-normal (SigRow.More l s rest) d n = n_more (fresh-row l rest d.0) (distinct-normal s d.1 n.0) (distinct_row-normal rest d.2 n.1)

mutual
  pub shape-distinct : (s : Sig) → Shape s → Distinct s
  shape-distinct (Sig.Val t) h = tt
  shape-distinct (Sig.Typ t k) h = tt
  shape-distinct (Sig.Meta x) h = shape_abs-distinct x h
  shape-distinct (Sig.Str fs) h = shape_row-distinct fs h
  shape-distinct (Sig.Fun e ks s x) h = (shape-distinct s h.0, shape_abs-distinct x h.1)

  -- in a signature of the right shape the names of each structure differ
  pub shape_abs-distinct : (x : Abs) → ShapeAbs x → DistinctAbs x
  shape_abs-distinct (Abs.Ex ks s) h = shape-distinct s h

  shape_row-distinct : (fs : SigRow) → ShapeRow fs → DistinctRow fs
  shape_row-distinct SigRow.End h = tt
  shape_row-distinct (SigRow.More l s rest) h = (h.0, shape-distinct s h.1, shape_row-distinct rest h.2)

-- the encoding of a normal signature of the right shape is normal
pub enc-normal : {ctx : List Kind} (s : Sig) → NormalSig ctx s → Shape s → Normal ctx (enc s) Kind.Star
enc-normal s n h = distinct-normal s (shape-distinct s h) n

-- the encoding of a normal signature that hides types of the right shape is normal
pub enc_abs-normal : {ctx : List Kind} (x : Abs) → NormalAbs ctx x → ShapeAbs x → Normal ctx (enc_abs x) Kind.Star
enc_abs-normal x n h = distinct_abs-normal x (shape_abs-distinct x h) n

-- signatures of one shape with convertible types have convertible encodings

abbrev pub Converts : Between → Type 0
Converts R = (ctx : List Kind) (t : Ty) (k : Kind) (u : Ty) → R ctx t k u → Conv ctx t u k

pub one_part-conv : {ctx : List Kind} {t u : Ty} (l : Label) → Conv ctx t u Kind.Star → Conv ctx (one_part l t) (one_part l u) Kind.Star
one_part-conv l h = c_fields (c_more tt tt h c_end)

mutual
  -- signatures whose types are related by conversion have convertible encodings
  pub enc-conv : {R : Between} {ctx : List Kind} {s t : Sig} → Converts R → AlikeSig R ctx s t → Shape s → Conv ctx (enc s) (enc t) Kind.Star
  enc-conv v (AlikeSig.val {ctx = ctx} {t = t} {u = u} a) h = one_part-conv Label.Val (v ctx t Kind.Star u a)
  enc-conv v (AlikeSig.typ {ctx = ctx} {t = t} {u = u} {k = k} a) h =
      let c = c_apply (c_refl (k_var here)) (conv-rename suc (maps-suc (Kind.Arrow k Kind.Star) ctx) (v ctx t k u a)) in
      one_part-conv Label.Typ (c_all (c_arrow c c))
  enc-conv v (AlikeSig.meta a) h = let c = enc_abs-conv v a h in one_part-conv Label.Sig (c_arrow c c)
  enc-conv v (AlikeSig.str a) h = c_fields (enc_row-conv v a h)
  enc-conv v (AlikeSig.fun {ks = ks} {e = e} a b) h = conv-all_over ks (c_arrow (enc-conv v a h.0) (one_part-conv (result_label e) (enc_abs-conv v b h.1)))

  -- signatures that hide types whose types are related by conversion have convertible encodings
  pub enc_abs-conv : {R : Between} {ctx : List Kind} {x y : Abs} → Converts R → AlikeAbs R ctx x y → ShapeAbs x → Conv ctx (enc_abs x) (enc_abs y) Kind.Star
  enc_abs-conv v (AlikeAbs.ex {ks = ks} a) h = conv-ex_over ks (enc-conv v a h)

  pub enc_row-conv : {R : Between} {ctx : List Kind} {fs gs : SigRow} → Converts R → AlikeRow R ctx fs gs → ShapeRow fs → Convs ctx (enc_row fs) (enc_row gs)
  enc_row-conv v AlikeRow.end h = c_end
  enc_row-conv v (AlikeRow.more {l = l} {fs = fs} {gs = gs} a b) h = c_more (fresh-row l fs h.0) (fresh-row l gs (no_field-alike l b h.0)) (enc-conv v a h.1) (enc_row-conv v b h.2)

-- the normal form of an encoding is the encoding of the normal form
pub enc-form : {ctx : List Kind} {s n : Sig} → NormalSigForm ctx s n → Shape s → NormalForm ctx (enc s) Kind.Star (enc n)
enc-form {n = n} f h = (enc-normal n (form_sig-normal f) (shape-alike f h), enc-conv (λ ctx t k u a. a.1) f h)

-- the normal form of an encoded signature that hides types is the encoding of its normal form
pub enc_abs-form : {ctx : List Kind} {x n : Abs} → NormalAbsForm ctx x n → ShapeAbs x → NormalForm ctx (enc_abs x) Kind.Star (enc_abs n)
enc_abs-form {n = n} f h = (enc_abs-normal n (form_abs-normal f) (shape_abs-alike f h), enc_abs-conv (λ ctx t k u a. a.1) f h)

-- good signatures

-- a signature is normal and of the right shape
pub record Good (ctx : List Kind) (s : Sig) : Type 0 where
  pub normal : NormalSig ctx s
  pub shape : Shape s

-- a signature that hides types is normal and of the right shape
pub record GoodAbs (ctx : List Kind) (x : Abs) : Type 0 where
  pub normal : NormalAbs ctx x
  pub shape : ShapeAbs x

-- renaming keeps a signature good, that is normal and of the right shape
pub good-rename : {ctx other : List Kind} {s : Sig} (r : ℕ → ℕ) → Maps ctx other r → Good ctx s → Good other (rename_sig r s)
good-rename {s = s} r m g = record { normal = normal_sig-rename r m s g.normal; shape = shape-rename r s g.shape }

-- the encoding of a good signature is normal
pub good-normal : {ctx : List Kind} {s : Sig} → Good ctx s → Normal ctx (enc s) Kind.Star
good-normal {s = s} g = enc-normal s g.normal g.shape

-- the encoding of a good signature that hides types is normal
pub good_abs-normal : {ctx : List Kind} {x : Abs} → GoodAbs ctx x → Normal ctx (enc_abs x) Kind.Star
good_abs-normal {x = x} g = enc_abs-normal x g.normal g.shape

-- each field of a good structure is good
pub good-field : {ctx : List Kind} {fs : SigRow} {l : Name} {s : Sig} → HasField fs l s → NormalSigRow ctx fs → ShapeRow fs → Good ctx s
good-field HasField.here n h = record { normal = n.0; shape = h.1 }
good-field (HasField.there d f) n h = good-field f n.1 h.2

-- the encoding of a structure has the encoding of each field at its label
pub enc-field : {fs : SigRow} {l : Name} {s : Sig} → HasField fs l s → HasPart (enc_row fs) (Label.Name l) (enc s)
enc-field HasField.here = HasPart.here
enc-field (HasField.there d f) = HasPart.there (name-differs d) (enc-field f)
