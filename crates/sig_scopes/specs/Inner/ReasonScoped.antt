-- Whether the variables of the types of a reason are in scope, and how many binders stand one in another in them.
use Rattle.std.specs.Prelude.{ℕ, max, Bool as Truth, true, false, ◌&&◌, Option, Some, None}
use Rattle.omega_scopes.specs.Inner.Scoped.{ty_scoped}
use Rattle.omega_scopes.specs.Inner.Depth.{ty_depth}
use Rattle.sig_definitions.specs.Matching.MatchRefusal.{Why}
use Rattle.refusal_reasons.specs.Refusal.{ElabWhy}

abbrev pub clash_scoped : ℕ → Why → Truth
clash_scoped n (Why.Types t u) = ty_scoped n t && ty_scoped n u
clash_scoped n _ = true

abbrev pub reason_scoped : ℕ → ElabWhy → Truth
reason_scoped n (ElabWhy.Clash p why) = clash_scoped n why
reason_scoped n (ElabWhy.NotArrow t) = ty_scoped n t
reason_scoped n (ElabWhy.NotAll t) = ty_scoped n t
reason_scoped n (ElabWhy.NotRecord t) = ty_scoped n t
reason_scoped n (ElabWhy.NotSum t) = ty_scoped n t
reason_scoped n (ElabWhy.NotData t) = ty_scoped n t
reason_scoped n (ElabWhy.Differ t u) = ty_scoped n t && ty_scoped n u
reason_scoped n _ = true

-- out of memory has no line
abbrev pub given_scoped : ℕ → Option ElabWhy → Truth
given_scoped n (Some why) = reason_scoped n why
given_scoped n None = false

abbrev pub clash_depth : Why → ℕ
clash_depth (Why.Types t u) = max (ty_depth t) (ty_depth u)
clash_depth _ = 0

abbrev pub reason_depth : ElabWhy → ℕ
reason_depth (ElabWhy.Clash p why) = clash_depth why
reason_depth (ElabWhy.NotArrow t) = ty_depth t
reason_depth (ElabWhy.NotAll t) = ty_depth t
reason_depth (ElabWhy.NotRecord t) = ty_depth t
reason_depth (ElabWhy.NotSum t) = ty_depth t
reason_depth (ElabWhy.NotData t) = ty_depth t
reason_depth (ElabWhy.Differ t u) = max (ty_depth t) (ty_depth u)
reason_depth _ = 0

abbrev pub given_depth : Option ElabWhy → ℕ
given_depth (Some why) = reason_depth why
given_depth None = 0
