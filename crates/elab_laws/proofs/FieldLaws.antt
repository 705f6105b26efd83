-- Fields put in their order keep distinct names, good types and good terms.
-- Main results: typed-insert, shape-merge, rise-with_names, collected-typed.
use Rattle.std.specs.Prelude.{ℕ, List, [], ◌∷◌, ◌≡◌, ◌≢◌, ◌⊎◌, Bool, true, false, cond, IsTrue}
use Rattle.std.proofs.Math.Path.{refl, sym, ◌∙◌, ap, subst}
use Rattle.std.proofs.Math.Logic.{inl, inr}
use Rattle.std.proofs.lemmas.Bool.{false≢true}
use Rattle.omega_kinds.specs.Kind.{Kind}
use Rattle.omega_kinds.specs.declared.label.Label.{Label}
use Rattle.omega_kinds.specs.Name.{Name, same_name}
use Rattle.omega_kinds.specs.LabelOrder.{name_before, label_before, spelling}
use Rattle.omega_kinds.proofs.LabelLaws.{irreflexive, transitive, total_order}
use Rattle.omega_kinds.proofs.NameLaws.{same_name-true, same_name-itself}
use Rattle.omega_types.specs.Ty.{Ty, Row}
use Rattle.omega_types.specs.Kinding.{Fresh}
use Rattle.omega_types.specs.Normality.{Normal, Normals}
use Rattle.omega_types.specs.Normality.Normals.{n_end, n_more}
use Rattle.omega_terms.specs.Term.{Term, TermRow}
use Rattle.omega_terms.proofs.NormalTyping.{Typed, TypedFields}
use Rattle.sig_definitions.specs.Signatures.Sig.{Sig, SigRow, NoField}
use Rattle.sig_definitions.specs.Signatures.SigSubst.{rename_sig_row}
use Rattle.sig_definitions.specs.Signatures.Alike.{NormalSig, NormalSigRow}
use Rattle.sig_definitions.specs.Signatures.Encoding.{enc_row}
use Rattle.sig_definitions.specs.Signatures.FieldOrder.{insert_field, merge, with_name, with_names}
use Rattle.sig_definitions.specs.Env.{Env, kinds, types}
use Rattle.sig_laws.proofs.Encoded.EncodingTyping.{Shape, ShapeRow, name-differs, fresh-row}
use Rattle.sig_laws.proofs.Encoded.EnvTyping.{GoodEnv, find-good}
use Rattle.sig_definitions.specs.Signatures.RecordOrder.{insert_part, insert_term, IsNew, AreNew, BeforeNames, NamesRise}
use Rattle.module_judgments.specs.Sequence.{Collected}
use Rattle.sig_explicit_laws.proofs.Fields.{insert-none, merge-none}

-- what holds of either branch of a condition, given its outcome, holds of the choice
pub pick : {A : Type 0} {x y : A} (P : A → Type 0) (b : Bool) → (b ≡ true → P x) → (b ≡ false → P y) → P (cond b x y)
pick P true f g = f refl
pick P false f g = g refl

-- things that differ do so the other way round
pub not-sym : {A : Type 0} {x y : A} → x ≢ y → y ≢ x
not-sym d e = d (sym e)

-- record types and record terms

-- a label that is fresh stays so when a field of another label is inserted
pub fresh-insert : (m l : Label) (t : Ty) (row : Row) → m ≢ l → Fresh m row → Fresh m (insert_part l t row)
fresh-insert m l t Row.End d f = (d, tt)
fresh-insert m l t (Row.More n u rest) d f = pick (Fresh m) (label_before l n) (λ e. (d, f)) (λ e. (f.0, fresh-insert m l t rest d f.1))

-- a normal row with a normal field of a fresh label inserted is normal
pub normals-insert : {ctx : List Kind} {t : Ty} {row : Row} (l : Label) → Fresh l row → Normal ctx t Kind.Star → Normals ctx row → Normals ctx (insert_part l t row)
normals-insert l f n n_end = n_more tt n n_end
normals-insert {ctx} {t} l f n (n_more {l = m} {rest = rest} g a more) = pick (Normals ctx) (label_before l m) (λ e. n_more f n (n_more g a more)) (λ e. n_more (fresh-insert m l t rest (not-sym f.0) g) a (normals-insert l f.1 n more))

-- typed fields with a typed field of a fresh label inserted are typed
pub typed-insert : {ctx : List Kind} {vars : List Ty} {t : Ty} {e : Term} {row : Row} {es : TermRow} (l : Label) → Fresh l row → Typed ctx vars e t → TypedFields ctx vars es row → TypedFields ctx vars (insert_term l e es) (insert_part l t row)
typed-insert l f h TypedFields.end = TypedFields.more h tt TypedFields.end
typed-insert {ctx} {vars} {t} {e} l f h (TypedFields.more {l = m} {e = d} {t = u} {f = ds} {r = rest} a g others) = go (label_before l m) (typed-insert l f.1 h others)
  where
    go : (b : Bool) → TypedFields ctx vars (insert_term l e ds) (insert_part l t rest) → TypedFields ctx vars (cond b (TermRow.More l e (TermRow.More m d ds)) (TermRow.More m d (insert_term l e ds))) (cond b (Row.More l t (Row.More m u rest)) (Row.More m u (insert_part l t rest)))
    go true r = TypedFields.more h f (TypedFields.more a g others)
    go false r = TypedFields.more a (fresh-insert m l t rest (not-sym f.0) g) r

-- none of the names is a label of the row
abbrev pub FreshAll : List Name → Row → Type 0
FreshAll [] row = Unit {0}
FreshAll (l ∷ ls) row = Fresh (Label.Name l) row × FreshAll ls row

-- names are fresh for the empty row
pub fresh_all-end : (names : List Name) → FreshAll names Row.End
fresh_all-end [] = tt
fresh_all-end (l ∷ ls) = (tt, fresh_all-end ls)

-- names stay fresh when a field of a new name is inserted
pub fresh_all-insert : (names : List Name) (x : Name) (t : Ty) (row : Row) → IsNew x names → FreshAll names row → FreshAll names (insert_part (Label.Name x) t row)
fresh_all-insert [] x t row n f = tt
fresh_all-insert (l ∷ ls) x t row n f = (fresh-insert (Label.Name l) (Label.Name x) t row (name-differs (not-sym n.0)) f.0, fresh_all-insert ls x t row n.1 f.1)

-- fields of structures

shape-insert : (l : Name) (s : Sig) (fs : SigRow) → NoField l fs → Shape s → ShapeRow fs → ShapeRow (insert_field l s fs)
shape-insert l s SigRow.End f h i = (tt, h, tt)
shape-insert l s (SigRow.More m t rest) f h i = pick ShapeRow (name_before l m) (λ e. (f, h, i)) (λ e. (insert-none m l s rest (not-sym f.0) i.0, i.1, shape-insert l s rest f.1 h i.2))

normal-insert : (ctx : List Kind) (l : Name) (s : Sig) (fs : SigRow) → NormalSig ctx s → NormalSigRow ctx fs → NormalSigRow ctx (insert_field l s fs)
normal-insert ctx l s SigRow.End n ns = (n, tt)
normal-insert ctx l s (SigRow.More m t rest) n ns = pick (NormalSigRow ctx) (name_before l m) (λ e. (n, ns)) (λ e. (ns.0, normal-insert ctx l s rest n ns.1))

-- the fields of two normal structures are normal together
pub normal-merge : (ctx : List Kind) (fs gs : SigRow) → NormalSigRow ctx fs → NormalSigRow ctx gs → NormalSigRow ctx (merge fs gs)
normal-merge ctx SigRow.End gs n m = m
normal-merge ctx (SigRow.More l s fs) gs n m = normal-insert ctx l s (merge fs gs) n.0 (normal-merge ctx fs gs n.1 m)

-- no field of the first has the name of one of the others
abbrev pub Apart : SigRow → SigRow → Type 0
Apart SigRow.End gs = Unit {0}
Apart (SigRow.More l s fs) gs = NoField l gs × Apart fs gs

-- fields that are apart stay so when types are renamed
pub apart-rename : (r : ℕ → ℕ) (fs gs : SigRow) → Apart fs gs → Apart (rename_sig_row r fs) gs
apart-rename r SigRow.End gs h = tt
apart-rename r (SigRow.More l s fs) gs h = (h.0, apart-rename r fs gs h.1)

-- the fields of two structures that are apart have, together, the shape that each has
pub shape-merge : (fs gs : SigRow) → ShapeRow fs → ShapeRow gs → Apart fs gs → ShapeRow (merge fs gs)
shape-merge SigRow.End gs h i a = i
shape-merge (SigRow.More l s fs) gs h i a = shape-insert l s (merge fs gs) (merge-none l fs gs h.0 a.0) h.1 (shape-merge fs gs h.2 i a.1)

-- none of the names has a field
abbrev pub NoFields : List Name → SigRow → Type 0
NoFields [] fs = Unit {0}
NoFields (l ∷ ls) fs = NoField l fs × NoFields ls fs

-- names have no field in the empty structure
pub no_fields-end : (names : List Name) → NoFields names SigRow.End
no_fields-end [] = tt
no_fields-end (l ∷ ls) = (tt, no_fields-end ls)

no_fields-more : (names : List Name) (l : Name) (s : Sig) (fs : SigRow) → IsNew l names → NoFields names fs → NoFields names (SigRow.More l s fs)
no_fields-more [] l s fs n h = tt
no_fields-more (m ∷ ms) l s fs n h = ((not-sym n.0, h.0), no_fields-more ms l s fs n.1 h.1)

-- names among which the fields are new have no field
pub new-no_fields : (names : List Name) (fs : SigRow) → AreNew fs names → NoFields names fs
new-no_fields names SigRow.End h = no_fields-end names
new-no_fields names (SigRow.More l s fs) h = no_fields-more names l s fs h.0 (new-no_fields names fs h.1)

-- names that have no field in either of two structures have none in both together
pub no_fields-merge : (names : List Name) (fs gs : SigRow) → NoFields names fs → NoFields names gs → NoFields names (merge fs gs)
no_fields-merge [] fs gs h i = tt
no_fields-merge (l ∷ ls) fs gs h i = (merge-none l fs gs h.0 i.0, no_fields-merge ls fs gs h.1 i.1)

-- names that have no field have none after a renaming of types
pub no_fields-rename : (r : ℕ → ℕ) (names : List Name) (fs : SigRow) → NoFields names fs → NoFields names (rename_sig_row r fs)
no_fields-rename r [] fs h = tt
no_fields-rename r (l ∷ ls) fs h = (one fs h.0, no_fields-rename r ls fs h.1)
  where
    one : (fs : SigRow) → NoField l fs → NoField l (rename_sig_row r fs)
    one SigRow.End g = tt
    one (SigRow.More m s rest) g = (g.0, one rest g.1)

with_name-no_fields : (l : Name) (names : List Name) (fs : SigRow) → NoFields (with_name l names) fs → NoField l fs × NoFields names fs
with_name-no_fields l [] fs h = h
with_name-no_fields l (m ∷ ms) fs h = go (same_name l m) (name_before l m) (same_name-true l m) (with_name-no_fields l ms fs) h
  where
    go : (b c : Bool) → (b ≡ true → l ≡ m) → (NoFields (with_name l ms) fs → NoField l fs × NoFields ms fs) → NoFields (cond b (m ∷ ms) (cond c (l ∷ m ∷ ms) (m ∷ with_name l ms))) fs → NoField l fs × (NoField m fs × NoFields ms fs)
    go true c e f i = (subst (λ x. NoField x fs) (sym (e refl)) i.0, i)
    go false true e f i = i
    go false false e f i = let r = f i.1 in (r.0, (i.0, r.1))

-- names together with those of fields have no field in others: these are apart from the fields, and lack the names
pub with_names-no_fields : (fs : SigRow) (names : List Name) (gs : SigRow) → NoFields (with_names fs names) gs → Apart fs gs × NoFields names gs
with_names-no_fields SigRow.End names gs h = (tt, h)
with_names-no_fields (SigRow.More l s fs) names gs h =
    let r = with_names-no_fields fs (with_name l names) gs h in
    let q = with_name-no_fields l names gs r.1 in
    ((q.0, r.0), q.1)

-- fields of new names, and others past them
pub no_fields-joined : (r : ℕ → ℕ) (names : List Name) (fs gs : SigRow) → AreNew fs names → NoFields (with_names fs names) gs → NoFields names (merge (rename_sig_row r fs) gs)
no_fields-joined r names fs gs a n = no_fields-merge names (rename_sig_row r fs) gs (no_fields-rename r names fs (new-no_fields names fs a)) (with_names-no_fields fs names gs n).1

-- names in their order

before-more : (l m : Name) (names : List Name) → IsTrue (name_before l m) → BeforeNames m names → BeforeNames l names
before-more l m [] h i = tt
before-more l m (n ∷ ns) h i = (transitive (Label.Name l) (Label.Name m) (Label.Name n) h i.0, before-more l m ns h i.1)

before-with : (m l : Name) (names : List Name) → IsTrue (name_before m l) → BeforeNames m names → BeforeNames m (with_name l names)
before-with m l [] h i = (h, tt)
before-with m l (n ∷ ns) h i = pick (BeforeNames m) (same_name l n) (λ e. i) (λ e. pick (BeforeNames m) (name_before l n) (λ d. (h, i)) (λ d. (i.0, before-with m l ns h i.1)))

-- names that rise do so with one more name put in its place
pub rise-with_name : (l : Name) (names : List Name) → NamesRise names → NamesRise (with_name l names)
rise-with_name l [] h = (tt, tt)
rise-with_name l (m ∷ ms) h = pick NamesRise (same_name l m) (λ e. h) (λ e. pick NamesRise (name_before l m) (λ d. ((d, before-more l m ms d h.0), h)) (λ d. (before-with m l ms (later e d (total_order (Label.Name l) (Label.Name m))) h.0, rise-with_name l ms h.1)))
  where
    later : same_name l m ≡ false → name_before l m ≡ false → (Label.Name l ≡ Label.Name m) ⊎ (IsTrue (name_before l m) ⊎ IsTrue (name_before m l)) → IsTrue (name_before m l)
    later e d (inl q) = absurd (false≢true (sym e ∙ (ap (λ x. same_name l (spelling x)) (sym q) ∙ same_name-itself l)))
    later e d (inr (inl q)) = absurd (false≢true (sym d ∙ q))
    later e d (inr (inr q)) = q

-- names that rise do so with the names of fields put in their places
pub rise-with_names : (fs : SigRow) (names : List Name) → NamesRise names → NamesRise (with_names fs names)
rise-with_names SigRow.End names h = h
rise-with_names (SigRow.More l s fs) names h = rise-with_names fs (with_name l names) (rise-with_name l names h)

-- a finished structure

collected-no : {g : Env} {names : List Name} {fs : SigRow} {es : TermRow} (l : Name) → BeforeNames l names → Collected g names fs es → NoField l fs
collected-no l h Collected.none = tt
collected-no l h (Collected.next {l = m} f c) = ((λ e. irreflexive (Label.Name l) (subst (λ x. IsTrue (name_before l x)) (sym e) h.0)), collected-no l h.1 c)

pub record Structure (g : Env) (fs : SigRow) (es : TermRow) : Type 0 where
  pub normal : NormalSigRow (kinds g) fs
  pub shape : ShapeRow fs
  pub typed : TypedFields (kinds g) (types g) es (enc_row fs)

-- what is collected for rising names in a good environment is a typed structure
pub collected-typed : {g : Env} {names : List Name} {fs : SigRow} {es : TermRow} → GoodEnv g → NamesRise names → Collected g names fs es → Structure g fs es
collected-typed h r Collected.none = record { normal = tt; shape = tt; typed = TypedFields.end }
collected-typed {g} h r (Collected.next {l = l} {fs = fs} f c) =
    let p = find-good g l h f in
    let q = collected-typed h r.1 c in
    let no = collected-no l r.0 c in
    record { normal = (p.0.normal, q.normal); shape = (no, p.0.shape, q.shape); typed = TypedFields.more p.1 (fresh-row l fs no) q.typed }
