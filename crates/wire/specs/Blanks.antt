-- The fields of a message as they are written again: nulls for what is reserved or does not matter. Assumes nothing.
use Rattle.std.specs.Prelude.{ℕ, Bool, true, false, List, replicate, if◌then◌else◌}
use Rattle.std.specs.List.{flat_map}
use Rattle.layout.specs.declared.field.Form.{Form}
use Rattle.layout.specs.declared.field.Form.TheVariants as form
use Rattle.layout.specs.declared.field.Field.{Field}
use Rattle.texts.specs.Bytes.{part}
use Rattle.layout.specs.Layout.{place, width, form_of, matters}

abbrev pub reserved : Form → Bool
reserved (form.Reserved w) = true
reserved _ = false

-- a field's bytes as they are written again
abbrev pub field_again : List ℕ → Field → List ℕ
field_again bs f =
    if matters bs f then if reserved (form_of f) then replicate (width f) 0 else part (place f) (width f) bs
    else replicate (width f) 0

unfoldable pub blanked : List Field → List ℕ → List ℕ
blanked fs bs = flat_map (field_again bs) fs
