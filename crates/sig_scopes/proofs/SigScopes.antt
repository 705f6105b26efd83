-- What the tests of signatures and reasons tell.
-- Main results: abs-tells, abs-told, line-tells, line-told.
use Rattle.std.proofs.Common.{◌≡◌, ℕ, ◌+◌, ◌^◌, ◌<◌, ◌&&◌, Bool as Truth, true, IsTrue, length, refl, sym, ◌∙◌, arith}
use Rattle.std.specs.Prelude.{Option, Some, None}
use Rattle.std.proofs.lemmas.Bool.{and_from, and_parts}
use Rattle.omega_scopes.specs.Inner.Scoped.{fits, ty_scoped}
use Rattle.omega_scopes.proofs.ScopeTests.{below, two, under_true, ty-sound, ty-complete}
use Rattle.sig_definitions.specs.Matching.MatchRefusal.{Why}
use Rattle.sig_definitions.specs.Signatures.Sig.{Sig, Abs, SigRow}
use Rattle.sig_text.specs.Inner.SigInScope.{SigInScope, AbsInScope, SigRowInScope}
use Rattle.fing_syntax.specs.Phrase.{Span}
use Rattle.refusal_reasons.specs.Refusal.{ElabWhy}
use Rattle.fing_refusals.specs.Inner.InScope.{ClashInScope, ReasonInScope, HasLine}
use Rattle.fing_refusals.specs.Inner.Plain.{refused}
use Rattle.sig_scopes.specs.Inner.SigScoped.{sig_scoped, abs_scoped, sig_row_scoped}
use Rattle.sig_scopes.specs.Inner.SigDepth.{sig_depth, abs_depth, sig_row_depth}
use Rattle.sig_scopes.specs.Inner.ReasonScoped.{clash_scoped, reason_scoped, given_scoped, clash_depth, reason_depth, given_depth}

-- signatures

mutual
  pub sig-sound : (n : ℕ) (s : Sig) → n < 2 ^ 64 → sig_scoped n s ≡ true → SigInScope n s
  sig-sound n (Sig.Val t) w e = ty-sound n t w e
  sig-sound n (Sig.Typ t k) w e = ty-sound n t w e
  sig-sound n (Sig.Meta x) w e = abs-sound n x e
  sig-sound n (Sig.Str fs) w e = sig_row-sound n fs w e
  sig-sound n (Sig.Fun f ks s x) w e =
      let p = and_parts (fits (n + length ks)) (sig_scoped (n + length ks) s && abs_scoped (n + length ks) x) e in
      let q = and_parts (sig_scoped (n + length ks) s) (abs_scoped (n + length ks) x) p.1 in
      let v = below (n + length ks) (2 ^ 64) p.0 in
      (v, sig-sound (n + length ks) s v q.0, abs-sound (n + length ks) x q.1)

  pub abs-sound : (n : ℕ) (x : Abs) → abs_scoped n x ≡ true → AbsInScope n x
  abs-sound n (Abs.Ex ks s) e =
      let p = and_parts (fits (n + length ks)) (sig_scoped (n + length ks) s) e in
      let v = below (n + length ks) (2 ^ 64) p.0 in
      (v, sig-sound (n + length ks) s v p.1)

  sig_row-sound : (n : ℕ) (fs : SigRow) → n < 2 ^ 64 → sig_row_scoped n fs ≡ true → SigRowInScope n fs
  sig_row-sound n SigRow.End w e = tt
  sig_row-sound n (SigRow.More l s rest) w e = two (sig_scoped n s) (sig_row_scoped n rest) (sig-sound n s w) (sig_row-sound n rest w) e

mutual
  pub sig-complete : (n : ℕ) (s : Sig) → SigInScope n s → n + sig_depth s < 2 ^ 64 → sig_scoped n s ≡ true
  sig-complete n (Sig.Val t) i h = ty-complete n t i h
  sig-complete n (Sig.Typ t k) i h = ty-complete n t i h
  sig-complete n (Sig.Meta x) i h = abs-complete n x i h
  sig-complete n (Sig.Str fs) i h = sig_row-complete n fs i h
  sig-complete n (Sig.Fun f ks s x) i h =
      let parts = and_from (sig_scoped (n + length ks) s) (abs_scoped (n + length ks) x) (sig-complete (n + length ks) s i.1 (omega arith)) (abs-complete (n + length ks) x i.2 (omega arith)) in
      under_true (n + length ks) (sig_scoped (n + length ks) s && abs_scoped (n + length ks) x) i.0 parts

  pub abs-complete : (n : ℕ) (x : Abs) → AbsInScope n x → n + abs_depth x < 2 ^ 64 → abs_scoped n x ≡ true
  abs-complete n (Abs.Ex ks s) i h =
      under_true (n + length ks) (sig_scoped (n + length ks) s) i.0 (sig-complete (n + length ks) s i.1 (omega arith))

  sig_row-complete : (n : ℕ) (fs : SigRow) → SigRowInScope n fs → n + sig_row_depth fs < 2 ^ 64 → sig_row_scoped n fs ≡ true
  sig_row-complete n SigRow.End i h = refl
  sig_row-complete n (SigRow.More l s rest) i h =
      and_from (sig_scoped n s) (sig_row_scoped n rest) (sig-complete n s i.0 (omega arith)) (sig_row-complete n rest i.1 (omega arith))

-- a signature that passes the test has its variables in scope
pub abs-tells : (n : ℕ) (x : Abs) (r : Truth) → r ≡ abs_scoped n x → IsTrue r → AbsInScope n x
abs-tells n x r is told = abs-sound n x (sym is ∙ told)

-- a signature with its variables in scope, if its levels fit 64 bits, passes the test
pub abs-told : (n : ℕ) (x : Abs) (r : Truth) → r ≡ abs_scoped n x → AbsInScope n x → n + abs_depth x < 2 ^ 64 → IsTrue r
abs-told n x r is i h = is ∙ abs-complete n x i h

-- reasons

clash-sound : (n : ℕ) (why : Why) → n < 2 ^ 64 → clash_scoped n why ≡ true → ClashInScope n why
clash-sound n Why.Form w e = tt
clash-sound n Why.Missing w e = tt
clash-sound n Why.Effects w e = tt
clash-sound n (Why.Types t u) w e = two (ty_scoped n t) (ty_scoped n u) (ty-sound n t w) (ty-sound n u w) e

clash-complete : (n : ℕ) (why : Why) → ClashInScope n why → n + clash_depth why < 2 ^ 64 → clash_scoped n why ≡ true
clash-complete n Why.Form i h = refl
clash-complete n Why.Missing i h = refl
clash-complete n Why.Effects i h = refl
clash-complete n (Why.Types t u) i h = and_from (ty_scoped n t) (ty_scoped n u) (ty-complete n t i.0 (omega arith)) (ty-complete n u i.1 (omega arith))

reason-sound : (n : ℕ) (why : ElabWhy) → n < 2 ^ 64 → reason_scoped n why ≡ true → ReasonInScope n why
reason-sound n (ElabWhy.Clash p why) w e = clash-sound n why w e
reason-sound n (ElabWhy.NotArrow t) w e = ty-sound n t w e
reason-sound n (ElabWhy.NotAll t) w e = ty-sound n t w e
reason-sound n (ElabWhy.NotRecord t) w e = ty-sound n t w e
reason-sound n (ElabWhy.NotSum t) w e = ty-sound n t w e
reason-sound n (ElabWhy.NotData t) w e = ty-sound n t w e
reason-sound n (ElabWhy.Differ t u) w e = two (ty_scoped n t) (ty_scoped n u) (ty-sound n t w) (ty-sound n u w) e
reason-sound n (ElabWhy.Unbound x) w e = tt
reason-sound n ElabWhy.NotStructure w e = tt
reason-sound n (ElabWhy.NoPart x) w e = tt
reason-sound n ElabWhy.NotFunctor w e = tt
reason-sound n ElabWhy.WrongPath w e = tt
reason-sound n ElabWhy.Escapes w e = tt
reason-sound n (ElabWhy.NoRoot i p) w e = tt
reason-sound n (ElabWhy.NoField x) w e = tt
reason-sound n (ElabWhy.NoBranch x) w e = tt
reason-sound n (ElabWhy.KindDiffer k j) w e = tt
reason-sound n ElabWhy.NotOperator w e = tt
reason-sound n (ElabWhy.DuplicateField x) w e = tt
reason-sound n (ElabWhy.Duplicate x) w e = tt
reason-sound n (ElabWhy.NotAbstract p) w e = tt

reason-complete : (n : ℕ) (why : ElabWhy) → ReasonInScope n why → n + reason_depth why < 2 ^ 64 → reason_scoped n why ≡ true
reason-complete n (ElabWhy.Clash p why) i h = clash-complete n why i h
reason-complete n (ElabWhy.NotArrow t) i h = ty-complete n t i h
reason-complete n (ElabWhy.NotAll t) i h = ty-complete n t i h
reason-complete n (ElabWhy.NotRecord t) i h = ty-complete n t i h
reason-complete n (ElabWhy.NotSum t) i h = ty-complete n t i h
reason-complete n (ElabWhy.NotData t) i h = ty-complete n t i h
reason-complete n (ElabWhy.Differ t u) i h = and_from (ty_scoped n t) (ty_scoped n u) (ty-complete n t i.0 (omega arith)) (ty-complete n u i.1 (omega arith))
reason-complete n (ElabWhy.Unbound x) i h = refl
reason-complete n ElabWhy.NotStructure i h = refl
reason-complete n (ElabWhy.NoPart x) i h = refl
reason-complete n ElabWhy.NotFunctor i h = refl
reason-complete n ElabWhy.WrongPath i h = refl
reason-complete n ElabWhy.Escapes i h = refl
reason-complete n (ElabWhy.NoRoot j p) i h = refl
reason-complete n (ElabWhy.NoField x) i h = refl
reason-complete n (ElabWhy.NoBranch x) i h = refl
reason-complete n (ElabWhy.KindDiffer k j) i h = refl
reason-complete n ElabWhy.NotOperator i h = refl
reason-complete n (ElabWhy.DuplicateField x) i h = refl
reason-complete n (ElabWhy.Duplicate x) i h = refl
reason-complete n (ElabWhy.NotAbstract p) i h = refl

given-sound : (at : Span) (n : ℕ) (given : Option ElabWhy) → n < 2 ^ 64 → given_scoped n given ≡ true → HasLine (refused at n given)
given-sound at n (Some why) w e = reason-sound n why w e
given-sound at n None w e = absurd (cc)

given-complete : (at : Span) (n : ℕ) (given : Option ElabWhy) → HasLine (refused at n given) → n + given_depth given < 2 ^ 64 → given_scoped n given ≡ true
given-complete at n (Some why) i h = reason-complete n why i h
given-complete at n None i h = absurd i

-- a refusal whose reason passes the test has a line
pub line-tells : (at : Span) (n : ℕ) (given : Option ElabWhy) (r : Truth) → n < 2 ^ 64 → r ≡ given_scoped n given → IsTrue r → HasLine (refused at n given)
line-tells at n given r w is told = given-sound at n given w (sym is ∙ told)

-- the reason of a refusal that has a line, if its levels fit 64 bits, passes the test
pub line-told : (at : Span) (n : ℕ) (given : Option ElabWhy) (r : Truth) → r ≡ given_scoped n given → HasLine (refused at n given) → n + given_depth given < 2 ^ 64 → IsTrue r
line-told at n given r is i h = is ∙ given-complete at n given i h
