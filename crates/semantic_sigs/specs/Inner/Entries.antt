-- The entries of the code's environments, and what one of them alone stands for.
use Rattle.std.specs.Prelude.{ℕ, zero, [], ◌∷◌, Bool, false, Option, Some, None}
use Rattle.omega_kinds.specs.Name.{Name, same_name}
use Rattle.omega_kinds.specs.View.{kind_tree}
use Rattle.omega_types.specs.Index.{bump}
use Rattle.omega_terms.specs.Term.{Term}
use Rattle.omega_terms.specs.TermSubst.{ren_term}
use Rattle.omega_terms.specs.PartTerms.{value_term}
use Rattle.sig_definitions.specs.Signatures.Sig.{Sig}
use Rattle.sig_definitions.specs.Signatures.SigSubst.{rename_sig}
use Rattle.sig_definitions.specs.Env.{Entry, Env, type_param, first_kind}
use Rattle.semantic_sigs.specs.declared.env.Entry.{Entry as CodeEntry}
use Rattle.semantic_sigs.specs.declared.env.Entry.TheVariants as entry

abbrev pub entry_of : CodeEntry → Entry
entry_of (entry.TypeVar k) = Entry.TypeVar (kind_tree k)
entry_of (entry.Named x s) = Entry.Named x s
entry_of (entry.Value x t) = Entry.Value x t
entry_of (entry.TypeParam x) = Entry.TypeParam x

abbrev pub is_named : Name → Entry → Bool
is_named x (Entry.TypeVar k) = false
is_named x (Entry.Named y s) = same_name x y
is_named x (Entry.Value y t) = same_name x y
is_named x (Entry.TypeParam y) = same_name x y

-- how many variables an entry brings
abbrev pub type_vars : Entry → ℕ
type_vars (Entry.TypeVar k) = 1
type_vars (Entry.Named y s) = 0
type_vars (Entry.Value y t) = 0
type_vars (Entry.TypeParam y) = 0

abbrev pub term_vars : Entry → ℕ
term_vars (Entry.TypeVar k) = 0
term_vars (Entry.Named y s) = 1
term_vars (Entry.Value y t) = 1
term_vars (Entry.TypeParam y) = 0

-- what an entry stands for just after it
abbrev pub here : Entry → Env → Option (Sig × Term)
here (Entry.TypeVar k) g = None
here (Entry.Named y s) g = Some (s, Term.Var zero)
here (Entry.Value y t) g = Some (Sig.Val t, value_term (Term.Var zero))
here (Entry.TypeParam y) g = Some (type_param (first_kind g))

-- what the first entry of an environment stands for
abbrev pub here_first : Env → Option (Sig × Term)
here_first [] = None
here_first (e ∷ g) = here e g

-- what is found, seen past more variables
abbrev pub seen : (types terms : ℕ) → Option (Sig × Term) → Option (Sig × Term)
seen types terms None = None
seen types terms (Some r) = Some (rename_sig (bump types 0) r.0, ren_term (bump types 0) (bump terms 0) r.1)
