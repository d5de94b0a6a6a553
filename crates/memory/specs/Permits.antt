-- What a half that is not there says. Assumes nothing.
use Rattle.store.specs.declared.namespaces.Label.{Label}

abbrev pub no_label : Label
no_label = record { id = 0; index = 0; size = 0; count = 0; used = 0 }
