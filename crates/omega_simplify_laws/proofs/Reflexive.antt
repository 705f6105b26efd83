-- Each term is like itself.
-- Main results: itself.
use Rattle.std.proofs.Common.{ℕ, suc, ◌+◌, arith}
use Rattle.omega_terms.specs.Term.{Term, TermRow}
use Rattle.omega_simplify_laws.proofs.Likeness.{Like, AreLike}

pub record LikeItself (e : Term) : Type 0 where
  pub weight : ℕ
  pub like : Like weight e e

pub record AreLikeThemselves (f : TermRow) : Type 0 where
  pub weight : ℕ
  pub like : AreLike weight f f

mutual
  -- a term is like itself
  pub itself : (e : Term) → LikeItself e
  itself (Term.Var i) = record { weight = 0; like = Like.var }
  itself (Term.Int z) = record { weight = 0; like = Like.int }
  itself (Term.Bool b) = record { weight = 0; like = Like.bool }
  itself (Term.Text s) = record { weight = 0; like = Like.text }
  itself (Term.Lam t e) = record { weight = 0; like = Like.lam (itself e).like }
  itself (Term.Call f a) = let s = itself f in let u = itself a in record { weight = s.weight + u.weight; like = Like.call s.like u.like (omega arith) }
  itself (Term.TyLam k e) = record { weight = 0; like = Like.ty_lam (itself e).like }
  itself (Term.Inst e t) = let s = itself e in record { weight = s.weight; like = Like.inst s.like }
  itself (Term.Fields f) = let s = themselves f in record { weight = s.weight; like = Like.fields s.like }
  itself (Term.Get e l) = let s = itself e in record { weight = suc s.weight; like = Like.get s.like (omega arith) }
  itself (Term.Pack t e u) = let s = itself e in record { weight = s.weight; like = Like.pack s.like }
  itself (Term.Unpack p e) = let s = itself p in record { weight = s.weight; like = Like.unpack s.like (itself e).like }
  itself (Term.If a b c) = let s = itself a in record { weight = s.weight; like = Like.if_ s.like (itself b).like (itself c).like }
  itself (Term.Arith o a b) = let s = itself a in let u = itself b in record { weight = s.weight + u.weight; like = Like.arith s.like u.like (omega arith) }
  itself (Term.Fix t u e) = record { weight = 0; like = Like.fix (itself e).like }
  itself (Term.Inj l e t) = let s = itself e in record { weight = s.weight; like = Like.inj s.like }
  itself (Term.Case e t f) = let s = itself e in record { weight = s.weight; like = Like.case s.like (themselves f).like }
  itself (Term.Roll e t) = let s = itself e in record { weight = s.weight; like = Like.roll s.like }
  itself (Term.Unroll e) = let s = itself e in record { weight = s.weight; like = Like.unroll s.like }

  themselves : (f : TermRow) → AreLikeThemselves f
  themselves TermRow.End = record { weight = 0; like = AreLike.end }
  themselves (TermRow.More l e f) =
      let s = itself e in let u = themselves f in record { weight = s.weight + u.weight; like = AreLike.more s.like u.like (omega arith) }
