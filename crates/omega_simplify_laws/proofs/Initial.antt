-- A term is like its simplified one.
-- Main results: start.
use Rattle.std.proofs.Common.{◌≡◌, ℕ, zero, suc, ◌+◌, refl, subst, Bool as Truth, true, false, cond, arith}
use Rattle.std.proofs.lemmas.Bool.{false≢true}
use Rattle.omega_types.specs.Ty.{Ty}
use Rattle.omega_terms.specs.Term.{Term, TermRow}
use Rattle.omega_simplify_laws.specs.Simplified.{is_flat, call_of, simplified, simplified_row}
use Rattle.omega_simplify_laws.proofs.Flat.{are_parts-yes}
use Rattle.omega_simplify_laws.proofs.Likeness.{Like, AreLike, GivesBack}

-- e is like d, and gives its argument back where d is flat
pub record Start (e d : Term) : Type 0 where
  pub weight : ℕ
  pub like : Like weight e d
  pub gives : is_flat d ≡ true → (k : ℕ) × GivesBack k e

pub record StartRow (f g : TermRow) : Type 0 where
  pub weight : ℕ
  pub like : AreLike weight f g

not_flat : {A : Type 0} → false ≡ true → A
not_flat p = absurd (false≢true p)

lam_gives : {n : ℕ} {b : Term} (t : Ty) (d : Term) → Like n b d → is_flat (Term.Lam t d) ≡ true → (k : ℕ) × GivesBack k (Term.Lam t b)
lam_gives {n} t (Term.Var zero) p h = (n, GivesBack.whole p)
lam_gives {n} {b} (Ty.Fields r) (Term.Fields f) p h = (n, GivesBack.parts (subst (λ x. Like n b (Term.Fields x)) (are_parts-yes r f h) p))
lam_gives _ _ p h = absurd (false≢true h)

lam_start : {b d : Term} (t : Ty) → Start b d → Start (Term.Lam t b) (Term.Lam t d)
lam_start {d = d} t s = record { weight = 0; like = Like.lam s.like; gives = lam_gives t d s.like }

call_start : {f g a b : Term} → Start f g → Start a b → Start (Term.Call f a) (call_of g b)
call_start {f} {g} {a} {b} s u = by_test (is_flat g) refl
  where
    by_test : (x : Truth) → is_flat g ≡ x → Start (Term.Call f a) (cond x b (Term.Call g b))
    by_test true e =
        let p = s.gives e in
        record {
          weight = suc (p.0 + u.weight);
          like = Like.drop p.1 u.like (omega arith);
          gives = λ h. let q = u.gives h in (suc (p.0 + q.0), GivesBack.chain p.1 q.1 (omega arith));
        }
    by_test false e = record { weight = s.weight + u.weight; like = Like.call s.like u.like (omega arith); gives = λ h. not_flat h }

mutual
  -- a term is like its simplified term
  pub start : (e : Term) → Start e (simplified e)
  start (Term.Var i) = record { weight = 0; like = Like.var; gives = λ h. not_flat h }
  start (Term.Int z) = record { weight = 0; like = Like.int; gives = λ h. not_flat h }
  start (Term.Bool b) = record { weight = 0; like = Like.bool; gives = λ h. not_flat h }
  start (Term.Text s) = record { weight = 0; like = Like.text; gives = λ h. not_flat h }
  start (Term.Lam t e) = lam_start t (start e)
  start (Term.Call f a) = call_start (start f) (start a)
  start (Term.TyLam k e) = record { weight = 0; like = Like.ty_lam (start e).like; gives = λ h. not_flat h }
  start (Term.Inst e t) = let s = start e in record { weight = s.weight; like = Like.inst s.like; gives = λ h. not_flat h }
  start (Term.Fields f) = let s = start_row f in record { weight = s.weight; like = Like.fields s.like; gives = λ h. not_flat h }
  start (Term.Get e l) = let s = start e in record { weight = suc s.weight; like = Like.get s.like (omega arith); gives = λ h. not_flat h }
  start (Term.Pack t e u) = let s = start e in record { weight = s.weight; like = Like.pack s.like; gives = λ h. not_flat h }
  start (Term.Unpack p e) = let s = start p in record { weight = s.weight; like = Like.unpack s.like (start e).like; gives = λ h. not_flat h }
  start (Term.If a b c) = let s = start a in record { weight = s.weight; like = Like.if_ s.like (start b).like (start c).like; gives = λ h. not_flat h }
  start (Term.Arith o a b) =
      let s = start a in
      let u = start b in
      record { weight = s.weight + u.weight; like = Like.arith s.like u.like (omega arith); gives = λ h. not_flat h }
  start (Term.Fix t u e) = record { weight = 0; like = Like.fix (start e).like; gives = λ h. not_flat h }
  start (Term.Inj l e t) = let s = start e in record { weight = s.weight; like = Like.inj s.like; gives = λ h. not_flat h }
  start (Term.Case e t f) = let s = start e in record { weight = s.weight; like = Like.case s.like (start_row f).like; gives = λ h. not_flat h }
  start (Term.Roll e t) = let s = start e in record { weight = s.weight; like = Like.roll s.like; gives = λ h. not_flat h }
  start (Term.Unroll e) = let s = start e in record { weight = s.weight; like = Like.unroll s.like; gives = λ h. not_flat h }

  pub start_row : (f : TermRow) → StartRow f (simplified_row f)
  start_row TermRow.End = record { weight = 0; like = AreLike.end }
  start_row (TermRow.More l e f) =
      let s = start e in
      let u = start_row f in
      record { weight = s.weight + u.weight; like = AreLike.more s.like u.like (omega arith) }
