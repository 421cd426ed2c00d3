-- What a copy holds by its form, in code.
use Rattle.serde_json.specs.View.{view, items_view}
use Rattle.net_json.specs.declared.copy_forms.CopyForm.{CopyForm as Form}
use Rattle.net_json.specs.Copies.{CopyForm}

abbrev pub form_of : Form → CopyForm
form_of f = record { id = f.id; inputs = view f.inputs.now; own = view f.own.now; near = items_view f.near.now }
