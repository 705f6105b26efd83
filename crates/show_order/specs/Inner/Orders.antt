-- The names that a module or a signature of a source declares.
use Rattle.std.specs.Prelude.{ℕ, List, [], Option, None, Some, slice_get}
use Rattle.omega_kinds.specs.Name.{Name}
use Rattle.show_order.specs.declared.order.Form.{Form}
use Rattle.show_order.specs.declared.order.Form.TheVariants as form
use Rattle.show_order.specs.declared.order.Order.{Order}

-- the form at a place, if there is one
abbrev pub form_at : List Form → Option ℕ → Option Form
form_at forms None = None
form_at forms (Some at) = slice_get forms at

-- the names of a form, if it is a structure
abbrev pub form_names : Option Form → List Name
form_names None = []
form_names (Some (form.Structure names)) = names
form_names (Some (form.Functor param body)) = []

abbrev pub names_at : List Form → Option ℕ → List Name
names_at forms at = form_names (form_at forms at)

-- the names that are declared, one after the other; none where the source does not show them
abbrev pub declared_by : Order → List Name
declared_by o = names_at o.orders.now.forms.items o.id.at
