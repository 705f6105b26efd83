-- What the derivations of the examples share: names that differ, paths to types, and what is known of small structures.
-- Main results: three-form, three, triple-instance.
use Rattle.std.specs.Prelude.{ℕ, List, [], ◌∷◌, ◌≡◌, ◌≢◌, false}
use Rattle.std.proofs.Math.Path.{refl, sym, ap, subst, ◌∙◌}
use Rattle.std.proofs.lemmas.Bool.{false≢true}
use Rattle.omega_kinds.specs.Kind.{Kind}
use Rattle.omega_kinds.specs.declared.label.Label.{Label}
use Rattle.omega_kinds.specs.Name.{Name, same_name}
use Rattle.omega_kinds.proofs.NameLaws.{same_name-itself}
use Rattle.omega_types.specs.Ty.{Ty}
use Rattle.omega_types.specs.Kinding.{here, there}
use Rattle.omega_types.specs.Conversion.{Conv}
use Rattle.omega_types.specs.Conversion.Conv.{c_refl}
use Rattle.omega_types.specs.Normality.{Normal}
use Rattle.omega_types.specs.Normality.Normal.{n_fields, n_neutral}
use Rattle.omega_types.specs.Normality.Normals.{n_end, n_more}
use Rattle.omega_types.specs.Normality.Neutral.{n_var}
use Rattle.omega_types.proofs.Algebra.{rename-id}
use Rattle.omega_types.proofs.Preservation.{normal-kind}
use Rattle.omega_types.proofs.BinderPuts.{its-form}
use Rattle.omega_terms.specs.Term.{Term, TermRow}
use Rattle.omega_terms.specs.Instance.{Instance, Instances}
use Rattle.omega_terms.proofs.InstanceLaws.{type-self}
use Rattle.sig_definitions.specs.Signatures.Sig.{Sig, SigRow}
use Rattle.sig_definitions.specs.Signatures.Alike.{AlikeSig, AlikeRow, NormalSigForm}
use Rattle.sig_definitions.specs.Signatures.Encoding.{enc, one_part, shown_type}
use Rattle.sig_laws.proofs.Encoded.EncodingTyping.{one_part-normal, shown_type-normal}
use Rattle.sig_laws.proofs.Encoded.EncodingTyping.{name-differs}
use Rattle.module_judgments.specs.PathUse.{Outside}
use Rattle.elab_examples.specs.CoercionRow.{result}

-- names that the test tells apart differ
pub differ : {l m : Name} → same_name l m ≡ false → l ≢ m
differ {l} h e = false≢true (sym h ∙ (ap (same_name l) (sym e) ∙ same_name-itself l))

-- their labels differ
pub labels-differ : {l m : Name} → same_name l m ≡ false → Label.Name l ≢ Label.Name m
labels-differ h = name-differs (differ h)

-- a normal type that hides nothing is found as it stands
pub own-path : {ctx : List Kind} {t : Ty} {k : Kind} → Normal ctx t k → Outside ctx [] t k t
own-path {ctx} {t} {k} h = Outside.outside t (subst (λ u. Conv ctx u t k) (sym (rename-id t)) (c_refl (normal-kind h))) (its-form h)

-- normal types
-- the first variable of a context, of kind *, is normal
pub var0 : {ctx : List Kind} → Normal (Kind.Star ∷ ctx) (Ty.Var 0) Kind.Star
var0 = n_neutral (n_var here)

-- the second variable of a context, of kind *, is normal
pub var1 : {ctx : List Kind} {k : Kind} → Normal (k ∷ Kind.Star ∷ ctx) (Ty.Var 1) Kind.Star
var1 = n_neutral (n_var (there here))

-- a record that shows a normal type is normal
pub shown-normal : {ctx : List Kind} {a : Ty} → Normal ctx a Kind.Star → Normal ctx (one_part Label.Typ (shown_type a Kind.Star)) Kind.Star
shown-normal h = one_part-normal Label.Typ (shown_type-normal h)

-- a record of one value of a normal type is normal
pub value-normal : {ctx : List Kind} {a : Ty} → Normal ctx a Kind.Star → Normal ctx (one_part Label.Val a) Kind.Star
value-normal h = one_part-normal Label.Val h

-- the structure of a type and a value of it, and that of t, u and x
pub pair-form : {ctx : List Kind} {a : Ty} {l m : Name} → Normal ctx a Kind.Star → let s = Sig.Str (SigRow.More l (Sig.Typ a Kind.Star) (SigRow.More m (Sig.Val a) SigRow.End)) in NormalSigForm ctx s s
pair-form h = AlikeSig.str (AlikeRow.more (AlikeSig.typ (its-form h)) (AlikeRow.more (AlikeSig.val (its-form h)) AlikeRow.end))

-- a structure of two normal types and a value of a third is its own normal form
pub three-form : {ctx : List Kind} {a b c : Ty} → Normal ctx a Kind.Star → Normal ctx b Kind.Star → Normal ctx c Kind.Star → NormalSigForm ctx (result a b c) (result a b c)
three-form ha hb hc = AlikeSig.str (AlikeRow.more (AlikeSig.typ (its-form ha)) (AlikeRow.more (AlikeSig.typ (its-form hb)) (AlikeRow.more (AlikeSig.val (its-form hc)) AlikeRow.end)))

-- the encoding of such a structure is normal
pub three : {ctx : List Kind} {a b c : Ty} → Normal ctx a Kind.Star → Normal ctx b Kind.Star → Normal ctx c Kind.Star → Normal ctx (enc (result a b c)) Kind.Star
three ha hb hc = n_fields (n_more (labels-differ refl, (labels-differ refl, tt)) (shown-normal ha) (n_more (labels-differ refl, tt) (shown-normal hb) (n_more tt (value-normal hc) n_end)))

-- records of variables stay as they are
pub one-instance : {from to : List Kind} {s : ℕ → Ty} {l : Label} {i : ℕ} → let e = Term.Fields (TermRow.More l (Term.Var i) TermRow.End) in Instance from to s e e
one-instance = Instance.fields (Instances.more Instance.var Instances.end)

-- a record of two variables is its own instance
pub pair-instance : {from to : List Kind} {s : ℕ → Ty} {l m : Label} {i j : ℕ} → let e = Term.Fields (TermRow.More l (Term.Var i) (TermRow.More m (Term.Var j) TermRow.End)) in Instance from to s e e
pair-instance = Instance.fields (Instances.more Instance.var (Instances.more Instance.var Instances.end))

-- a record of three variables is its own instance
pub triple-instance : {from to : List Kind} {s : ℕ → Ty} {l m n : Label} {i j k : ℕ} → let e = Term.Fields (TermRow.More l (Term.Var i) (TermRow.More m (Term.Var j) (TermRow.More n (Term.Var k) TermRow.End))) in Instance from to s e e
triple-instance = Instance.fields (Instances.more Instance.var (Instances.more Instance.var (Instances.more Instance.var Instances.end)))

-- a part of a variable, coerced to its own type
pub part-instance : {ctx : List Kind} {a : Ty} {i : ℕ} {l : Label} → Normal ctx a Kind.Star → let e = Term.Call (Term.Lam a (Term.Var 0)) (Term.Get (Term.Var i) l) in Instance ctx ctx Ty.Var e e
part-instance h = Instance.call (Instance.lam (type-self h) Instance.var) (Instance.get Instance.var)
