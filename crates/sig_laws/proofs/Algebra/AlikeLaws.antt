-- Signatures that are alike: composition, normal forms, renaming and substitution.
-- Main results: conv_sig-trans, form_sig-same, form_abs-unique, conv_sig-gives, same-conv_sig.
use Rattle.std.specs.Prelude.{ℕ, List, ◌≡◌}
use Rattle.std.proofs.Math.Path.{refl, sym, ◌∙◌, ap, ap₂, subst}
use Rattle.omega_kinds.specs.Kind.{Kind}
use Rattle.omega_types.specs.Ty.{Ty}
use Rattle.omega_types.specs.Conversion.Conv.{c_refl, c_sym, c_trans}
use Rattle.omega_types.specs.Normalises.{NormalForm, Maps}
use Rattle.omega_types.specs.Binders.{extend, lifts, unders}
use Rattle.omega_types.proofs.Preservation.{Substitutes, Convertible, conv-kinds, normal-kind, conv-substitute, substitute-convertible, normal-rename}
use Rattle.omega_types.proofs.Hereditary.{normal-gives}
use Rattle.sig_definitions.specs.Signatures.Sig.{Sig, Abs, SigRow}
use Rattle.sig_definitions.specs.Signatures.SigSubst.{rename_sig, rename_abs, rename_sig_row, substitute_sig, substitute_abs, substitute_sig_row}
use Rattle.sig_laws.specs.NormalSig.{normal_sig, normal_abs, normal_sig_row}
use Rattle.sig_definitions.specs.Signatures.Alike.{Between, AlikeSig, AlikeAbs, AlikeRow, val, typ, meta, str, fun, ex, end, more, ConvBetween, ConvSig, ConvAbs, NormalSigForm, NormalAbsForm, NormalSig, NormalAbs, NormalSigRow}
use Rattle.sig_definitions.specs.Signatures.SigMentions.{MentionsSig, Avoids, by_normal_form}
use Rattle.sig_laws.proofs.Algebra.BinderLaws.{unders-convertible}
use Rattle.omega_types.proofs.BinderPuts.{form-is, lifts-maps}
use Rattle.sig_laws.proofs.Algebra.SigAlgebra.{substitute-vars_sig, substitute-vars_abs, substitute-vars_row}

-- generic

mutual
  pub alike-map : {R S : Between} {ctx : List Kind} {x y : Sig} → ((c : List Kind) (t : Ty) (k : Kind) (u : Ty) → R c t k u → S c t k u) → AlikeSig R ctx x y → AlikeSig S ctx x y
  alike-map h (val r) = val (h _ _ _ _ r)
  alike-map h (typ r) = typ (h _ _ _ _ r)
  alike-map h (meta x) = meta (alike-map_abs h x)
  alike-map h (str fs) = str (alike-map_row h fs)
  alike-map h (fun s x) = fun (alike-map h s) (alike-map_abs h x)

  pub alike-map_abs : {R S : Between} {ctx : List Kind} {x y : Abs} → ((c : List Kind) (t : Ty) (k : Kind) (u : Ty) → R c t k u → S c t k u) → AlikeAbs R ctx x y → AlikeAbs S ctx x y
  alike-map_abs h (ex s) = ex (alike-map h s)

  pub alike-map_row : {R S : Between} {ctx : List Kind} {x y : SigRow} → ((c : List Kind) (t : Ty) (k : Kind) (u : Ty) → R c t k u → S c t k u) → AlikeRow R ctx x y → AlikeRow S ctx x y
  alike-map_row h end = end
  alike-map_row h (more s fs) = more (alike-map h s) (alike-map_row h fs)

mutual
  pub alike-sym : {R S : Between} {ctx : List Kind} {x y : Sig} → ((c : List Kind) (t : Ty) (k : Kind) (u : Ty) → R c t k u → S c u k t) → AlikeSig R ctx x y → AlikeSig S ctx y x
  alike-sym h (val r) = val (h _ _ _ _ r)
  alike-sym h (typ r) = typ (h _ _ _ _ r)
  alike-sym h (meta x) = meta (alike-sym_abs h x)
  alike-sym h (str fs) = str (alike-sym_row h fs)
  alike-sym h (fun s x) = fun (alike-sym h s) (alike-sym_abs h x)

  -- signatures that hide types and are alike are so the other way round
  pub alike-sym_abs : {R S : Between} {ctx : List Kind} {x y : Abs} → ((c : List Kind) (t : Ty) (k : Kind) (u : Ty) → R c t k u → S c u k t) → AlikeAbs R ctx x y → AlikeAbs S ctx y x
  alike-sym_abs h (ex s) = ex (alike-sym h s)

  -- fields of structures that are alike are so the other way round
  pub alike-sym_row : {R S : Between} {ctx : List Kind} {x y : SigRow} → ((c : List Kind) (t : Ty) (k : Kind) (u : Ty) → R c t k u → S c u k t) → AlikeRow R ctx x y → AlikeRow S ctx y x
  alike-sym_row h end = end
  alike-sym_row h (more s fs) = more (alike-sym h s) (alike-sym_row h fs)

mutual
  pub alike-trans : {R S T : Between} {ctx : List Kind} {x y z : Sig} → ((c : List Kind) (t : Ty) (k : Kind) (u v : Ty) → R c t k u → S c u k v → T c t k v) → AlikeSig R ctx x y → AlikeSig S ctx y z → AlikeSig T ctx x z
  alike-trans h (val r) (val q) = val (h _ _ _ _ _ r q)
  alike-trans h (typ r) (typ q) = typ (h _ _ _ _ _ r q)
  alike-trans h (meta x) (meta y) = meta (alike-trans_abs h x y)
  alike-trans h (str fs) (str gs) = str (alike-trans_row h fs gs)
  alike-trans h (fun s x) (fun t y) = fun (alike-trans h s t) (alike-trans_abs h x y)

  pub alike-trans_abs : {R S T : Between} {ctx : List Kind} {x y z : Abs} → ((c : List Kind) (t : Ty) (k : Kind) (u v : Ty) → R c t k u → S c u k v → T c t k v) → AlikeAbs R ctx x y → AlikeAbs S ctx y z → AlikeAbs T ctx x z
  alike-trans_abs h (ex s) (ex t) = ex (alike-trans h s t)

  pub alike-trans_row : {R S T : Between} {ctx : List Kind} {x y z : SigRow} → ((c : List Kind) (t : Ty) (k : Kind) (u v : Ty) → R c t k u → S c u k v → T c t k v) → AlikeRow R ctx x y → AlikeRow S ctx y z → AlikeRow T ctx x z
  alike-trans_row h end end = end
  alike-trans_row h (more s fs) (more t gs) = more (alike-trans h s t) (alike-trans_row h fs gs)

-- convertible signatures

-- conversion of signatures is symmetric
pub conv_sig-sym : {ctx : List Kind} {x y : Sig} → ConvSig ctx x y → ConvSig ctx y x
conv_sig-sym c = alike-sym (λ c t k u r. c_sym r) c

-- conversion of signatures is transitive
pub conv_sig-trans : {ctx : List Kind} {x y z : Sig} → ConvSig ctx x y → ConvSig ctx y z → ConvSig ctx x z
conv_sig-trans c d = alike-trans (λ c t k u v r q. c_trans r q) c d

-- conversion of signatures that hide types is symmetric
pub conv_abs-sym : {ctx : List Kind} {x y : Abs} → ConvAbs ctx x y → ConvAbs ctx y x
conv_abs-sym c = alike-sym_abs (λ c t k u r. c_sym r) c

-- conversion of signatures that hide types is transitive
pub conv_abs-trans : {ctx : List Kind} {x y z : Abs} → ConvAbs ctx x y → ConvAbs ctx y z → ConvAbs ctx x z
conv_abs-trans c d = alike-trans_abs (λ c t k u v r q. c_trans r q) c d

-- a signature is convertible to its normal form
pub form-conv_sig : {ctx : List Kind} {x y : Sig} → NormalSigForm ctx x y → ConvSig ctx x y
form-conv_sig c = alike-map (λ c t k u r. r.1) c

-- a signature that hides types is convertible to its normal form
pub form-conv_abs : {ctx : List Kind} {x y : Abs} → NormalAbsForm ctx x y → ConvAbs ctx x y
form-conv_abs c = alike-map_abs (λ c t k u r. r.1) c

-- a convertible signature has the same normal form
pub conv-form_sig : {ctx : List Kind} {x y n : Sig} → ConvSig ctx x y → NormalSigForm ctx y n → NormalSigForm ctx x n
conv-form_sig c f = alike-trans (λ c t k u v r q. (q.0, c_trans r q.1)) c f

-- convertible signatures have the same normal forms
pub conv-form_abs : {ctx : List Kind} {x y n : Abs} → ConvAbs ctx x y → NormalAbsForm ctx y n → NormalAbsForm ctx x n
conv-form_abs c f = alike-trans_abs (λ c t k u v r q. (q.0, c_trans r q.1)) c f

-- normal forms of signatures

mutual
  -- the normal form of a signature is the one that the function gives
  pub form_sig-same : {ctx : List Kind} {x n : Sig} → NormalSigForm ctx x n → n ≡ normal_sig ctx x
  form_sig-same (val r) = ap Sig.Val (form-is r)
  form_sig-same (typ {k = k} r) = ap (λ u. Sig.Typ u k) (form-is r)
  form_sig-same (meta x) = ap Sig.Meta (form_abs-same x)
  form_sig-same (str fs) = ap Sig.Str (form_row-same fs)
  form_sig-same (fun {ks = ks} {e = e} s x) = ap₂ (Sig.Fun e ks) (form_sig-same s) (form_abs-same x)

  -- the normal form of a signature that hides types is the one that the function gives
  pub form_abs-same : {ctx : List Kind} {x n : Abs} → NormalAbsForm ctx x n → n ≡ normal_abs ctx x
  form_abs-same (ex {ks = ks} s) = ap (Abs.Ex ks) (form_sig-same s)

  pub form_row-same : {ctx : List Kind} {x n : SigRow} → AlikeRow NormalForm ctx x n → n ≡ normal_sig_row ctx x
  form_row-same end = refl
  form_row-same (more {l = l} s fs) = ap₂ (SigRow.More l) (form_sig-same s) (form_row-same fs)

-- a signature has at most one normal form
pub form_sig-unique : {ctx : List Kind} {x n m : Sig} → NormalSigForm ctx x n → NormalSigForm ctx x m → n ≡ m
form_sig-unique f g = form_sig-same f ∙ sym (form_sig-same g)

-- a signature that hides types has at most one normal form
pub form_abs-unique : {ctx : List Kind} {x n m : Abs} → NormalAbsForm ctx x n → NormalAbsForm ctx x m → n ≡ m
form_abs-unique f g = form_abs-same f ∙ sym (form_abs-same g)

mutual
  -- the normal form of a signature is normal
  pub form_sig-normal : {ctx : List Kind} {x n : Sig} → NormalSigForm ctx x n → NormalSig ctx n
  form_sig-normal (val r) = r.0
  form_sig-normal (typ r) = r.0
  form_sig-normal (meta x) = form_abs-normal x
  form_sig-normal (str fs) = form_row-normal fs
  form_sig-normal (fun s x) = (form_sig-normal s, form_abs-normal x)

  -- the normal form of a signature that hides types is normal
  pub form_abs-normal : {ctx : List Kind} {x n : Abs} → NormalAbsForm ctx x n → NormalAbs ctx n
  form_abs-normal (ex s) = form_sig-normal s

  pub form_row-normal : {ctx : List Kind} {x n : SigRow} → AlikeRow NormalForm ctx x n → NormalSigRow ctx n
  form_row-normal end = tt
  form_row-normal (more s fs) = (form_sig-normal s, form_row-normal fs)

-- a normal one is its own
mutual
  -- a normal signature is a normal form of itself
  pub normal_sig-form : (ctx : List Kind) (x : Sig) → NormalSig ctx x → NormalSigForm ctx x x
  normal_sig-form ctx (Sig.Val t) n = val (n, c_refl (normal-kind n))
  normal_sig-form ctx (Sig.Typ t k) n = typ (n, c_refl (normal-kind n))
  normal_sig-form ctx (Sig.Meta x) n = meta (normal_abs-form ctx x n)
  normal_sig-form ctx (Sig.Str fs) n = str (normal_row-form ctx fs n)
  normal_sig-form ctx (Sig.Fun e ks s x) n = fun (normal_sig-form (extend ctx ks) s n.0) (normal_abs-form (extend ctx ks) x n.1)

  -- a normal signature that hides types is a normal form of itself
  pub normal_abs-form : (ctx : List Kind) (x : Abs) → NormalAbs ctx x → NormalAbsForm ctx x x
  normal_abs-form ctx (Abs.Ex ks s) n = ex (normal_sig-form (extend ctx ks) s n)

  pub normal_row-form : (ctx : List Kind) (x : SigRow) → NormalSigRow ctx x → AlikeRow NormalForm ctx x x
  normal_row-form ctx SigRow.End n = end
  normal_row-form ctx (SigRow.More l s rest) n = more (normal_sig-form ctx s n.0) (normal_row-form ctx rest n.1)

-- each signature whose types have their kinds has one
mutual
  -- what the function gives of a well kinded signature is its normal form
  pub conv_sig-gives : {ctx : List Kind} {x y : Sig} → ConvSig ctx x y → NormalSigForm ctx x (normal_sig ctx x)
  conv_sig-gives (val r) = val (normal-gives (conv-kinds r).0)
  conv_sig-gives (typ r) = typ (normal-gives (conv-kinds r).0)
  conv_sig-gives (meta x) = meta (conv_abs-gives x)
  conv_sig-gives (str fs) = str (conv_row-gives fs)
  conv_sig-gives (fun s x) = fun (conv_sig-gives s) (conv_abs-gives x)

  -- what the function gives of a well kinded signature that hides types is its normal form
  pub conv_abs-gives : {ctx : List Kind} {x y : Abs} → ConvAbs ctx x y → NormalAbsForm ctx x (normal_abs ctx x)
  conv_abs-gives (ex s) = ex (conv_sig-gives s)

  pub conv_row-gives : {ctx : List Kind} {x y : SigRow} → AlikeRow ConvBetween ctx x y → AlikeRow NormalForm ctx x (normal_sig_row ctx x)
  conv_row-gives end = end
  conv_row-gives (more s fs) = more (conv_sig-gives s) (conv_row-gives fs)

-- two well kinded signatures with one normal form are convertible
pub same-conv_sig : {ctx : List Kind} {x y : Sig} → ConvSig ctx x x → ConvSig ctx y y → normal_sig ctx x ≡ normal_sig ctx y → ConvSig ctx x y
same-conv_sig {ctx} {x} {y} c d e = conv_sig-trans (form-conv_sig (conv_sig-gives c)) (subst (λ n. ConvSig ctx n y) (sym e) (conv_sig-sym (form-conv_sig (conv_sig-gives d))))

-- two well kinded signatures that hide types with one normal form are convertible
pub same-conv_abs : {ctx : List Kind} {x y : Abs} → ConvAbs ctx x x → ConvAbs ctx y y → normal_abs ctx x ≡ normal_abs ctx y → ConvAbs ctx x y
same-conv_abs {ctx} {x} {y} c d e = conv_abs-trans (form-conv_abs (conv_abs-gives c)) (subst (λ n. ConvAbs ctx n y) (sym e) (conv_abs-sym (form-conv_abs (conv_abs-gives d))))

pub normal_sig-self : (ctx : List Kind) (x : Sig) → NormalSig ctx x → normal_sig ctx x ≡ x
normal_sig-self ctx x n = sym (form_sig-same (normal_sig-form ctx x n))

-- a normal signature does not mention a variable that it avoids
pub avoided : {c : List Kind} {s : Sig} {i : ℕ} → NormalSig c s → Avoids c s i → MentionsSig i s → ⊥
avoided {c} {s} {i} n (by_normal_form f h) m = h (subst (MentionsSig i) (sym (form_sig-same f ∙ normal_sig-self c s n)) m)

-- a normal signature that hides types is its own normal form
pub normal_abs-self : (ctx : List Kind) (x : Abs) → NormalAbs ctx x → normal_abs ctx x ≡ x
normal_abs-self ctx x n = sym (form_abs-same (normal_abs-form ctx x n))

-- convertible substitutions in convertible signatures
mutual
  -- convertible substitutions in convertible signatures give convertible ones
  pub conv_sig-substitute : {ctx other : List Kind} {x y : Sig} (f g : ℕ → Ty) → Convertible ctx other f g → ConvSig ctx x y → ConvSig other (substitute_sig f x) (substitute_sig g y)
  conv_sig-substitute f g h (val r) = val (c_trans (substitute-convertible f g h (conv-kinds r).0) (conv-substitute g (λ i k x. (conv-kinds (h i k x)).1) r))
  conv_sig-substitute f g h (typ r) = typ (c_trans (substitute-convertible f g h (conv-kinds r).0) (conv-substitute g (λ i k x. (conv-kinds (h i k x)).1) r))
  conv_sig-substitute f g h (meta x) = meta (conv_abs-substitute f g h x)
  conv_sig-substitute f g h (str fs) = str (conv_row-substitute f g h fs)
  conv_sig-substitute f g h (fun {ks = ks} s x) = fun (conv_sig-substitute (unders ks f) (unders ks g) (unders-convertible ks h) s) (conv_abs-substitute (unders ks f) (unders ks g) (unders-convertible ks h) x)

  -- convertible substitutions in convertible signatures that hide types give convertible ones
  pub conv_abs-substitute : {ctx other : List Kind} {x y : Abs} (f g : ℕ → Ty) → Convertible ctx other f g → ConvAbs ctx x y → ConvAbs other (substitute_abs f x) (substitute_abs g y)
  conv_abs-substitute f g h (ex {ks = ks} s) = ex (conv_sig-substitute (unders ks f) (unders ks g) (unders-convertible ks h) s)

  pub conv_row-substitute : {ctx other : List Kind} {x y : SigRow} (f g : ℕ → Ty) → Convertible ctx other f g → AlikeRow ConvBetween ctx x y → AlikeRow ConvBetween other (substitute_sig_row f x) (substitute_sig_row g y)
  conv_row-substitute f g h end = end
  conv_row-substitute f g h (more s fs) = more (conv_sig-substitute f g h s) (conv_row-substitute f g h fs)

-- a substitution of types of the right kinds is convertible to itself
pub substitutes-convertible : {ctx other : List Kind} {f : ℕ → Ty} → Substitutes ctx other f → Convertible ctx other f f
substitutes-convertible h i k x = c_refl (h i k x)

-- renaming keeps normal signatures normal
mutual
  -- renaming keeps a signature normal
  pub normal_sig-rename : {ctx other : List Kind} (r : ℕ → ℕ) → Maps ctx other r → (x : Sig) → NormalSig ctx x → NormalSig other (rename_sig r x)
  normal_sig-rename r h (Sig.Val t) n = normal-rename r h n
  normal_sig-rename r h (Sig.Typ t k) n = normal-rename r h n
  normal_sig-rename r h (Sig.Meta x) n = normal_abs-rename r h x n
  normal_sig-rename r h (Sig.Str fs) n = normal_row-rename r h fs n
  normal_sig-rename r h (Sig.Fun e ks s x) n = (normal_sig-rename (lifts ks r) (lifts-maps ks h) s n.0, normal_abs-rename (lifts ks r) (lifts-maps ks h) x n.1)

  -- renaming keeps a signature that hides types normal
  pub normal_abs-rename : {ctx other : List Kind} (r : ℕ → ℕ) → Maps ctx other r → (x : Abs) → NormalAbs ctx x → NormalAbs other (rename_abs r x)
  normal_abs-rename r h (Abs.Ex ks s) n = normal_sig-rename (lifts ks r) (lifts-maps ks h) s n

  -- renaming keeps the fields of a structure normal
  pub normal_row-rename : {ctx other : List Kind} (r : ℕ → ℕ) → Maps ctx other r → (x : SigRow) → NormalSigRow ctx x → NormalSigRow other (rename_sig_row r x)
  normal_row-rename r h SigRow.End n = tt
  normal_row-rename r h (SigRow.More l s rest) n = (normal_sig-rename r h s n.0, normal_row-rename r h rest n.1)

-- a substitution, or a renaming, keeps all but the types

abbrev pub Any : Between
Any ctx t k u = Unit {0}

mutual
  -- substitution keeps the shape of a signature
  pub alike-substitute : (ctx : List Kind) (f : ℕ → Ty) (x : Sig) → AlikeSig Any ctx x (substitute_sig f x)
  alike-substitute ctx f (Sig.Val t) = val tt
  alike-substitute ctx f (Sig.Typ t k) = typ tt
  alike-substitute ctx f (Sig.Meta x) = meta (alike_abs-substitute ctx f x)
  alike-substitute ctx f (Sig.Str fs) = str (alike_row-substitute ctx f fs)
  alike-substitute ctx f (Sig.Fun e ks s x) = fun (alike-substitute (extend ctx ks) (unders ks f) s) (alike_abs-substitute (extend ctx ks) (unders ks f) x)

  -- substitution keeps the shape of a signature that hides types
  pub alike_abs-substitute : (ctx : List Kind) (f : ℕ → Ty) (x : Abs) → AlikeAbs Any ctx x (substitute_abs f x)
  alike_abs-substitute ctx f (Abs.Ex ks s) = ex (alike-substitute (extend ctx ks) (unders ks f) s)

  -- substitution keeps the shape of the fields of a structure
  pub alike_row-substitute : (ctx : List Kind) (f : ℕ → Ty) (x : SigRow) → AlikeRow Any ctx x (substitute_sig_row f x)
  alike_row-substitute ctx f SigRow.End = end
  alike_row-substitute ctx f (SigRow.More l s rest) = more (alike-substitute ctx f s) (alike_row-substitute ctx f rest)

-- renaming a signature keeps its shape
pub alike-rename : (ctx : List Kind) (r : ℕ → ℕ) (x : Sig) → AlikeSig Any ctx x (rename_sig r x)
alike-rename ctx r x = subst (AlikeSig Any ctx x) (substitute-vars_sig r x) (alike-substitute ctx (λ i. Ty.Var (r i)) x)

-- renaming a signature that hides types keeps its shape
pub alike_abs-rename : (ctx : List Kind) (r : ℕ → ℕ) (x : Abs) → AlikeAbs Any ctx x (rename_abs r x)
alike_abs-rename ctx r x = subst (AlikeAbs Any ctx x) (substitute-vars_abs r x) (alike_abs-substitute ctx (λ i. Ty.Var (r i)) x)

-- renaming the fields of a structure keeps their shape
pub alike_row-rename : (ctx : List Kind) (r : ℕ → ℕ) (x : SigRow) → AlikeRow Any ctx x (rename_sig_row r x)
alike_row-rename ctx r x = subst (AlikeRow Any ctx x) (substitute-vars_row r x) (alike_row-substitute ctx (λ i. Ty.Var (r i)) x)
