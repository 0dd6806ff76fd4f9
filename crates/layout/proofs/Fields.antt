-- What single fields hold and are written as. Assumes nothing.
use Rattle.std.proofs.Common.{◌≡◌, ℕ, ◌≤◌, List, length, sym, arith}
use Rattle.std.specs.List.{prefix_len}
use Rattle.std.proofs.lemmas.List.{length-take-le}
use Rattle.std.proofs.lemmas.List.Sums.{prefix_len-le-length}
use Rattle.texts.specs.Bytes.{printable, said}
use Rattle.texts.specs.Says.{says}
use Rattle.texts.specs.declared.text.Text.{Text}
use Rattle.texts.specs.declared.text.Name.{Name}
use Rattle.texts.proofs.Padding.{padded-said}
use Rattle.layout.specs.declared.field.Form.TheVariants as form
use Rattle.layout.specs.declared.field.Field.TheVariants as field
use Rattle.layout.specs.Layout.Content.{words}
use Rattle.layout.specs.Writing.{field_bytes}

-- a text is held by its field, and written as the field that it is
pub said_fits : (f : List ℕ) (n : ℕ) → length f ≡ n → length (said f) ≤ n
said_fits f n h =
    let p = prefix_len-le-length printable f in
    let e = length-take-le (prefix_len printable f) f p in
    omega arith

pub text_bytes : {N : ℕ} (at : ℕ) (t : Text N) → t.field.now
    ≡ field_bytes (field.Always at (form.Text N)) (words (says t))
unfolding field_bytes
text_bytes at t = sym (rw (← t.wide) (padded-said t.field.now t.text))

-- and so is a name
pub name_bytes : {N : ℕ} (at : ℕ) (n : Name N) → n.text.field.now
    ≡ field_bytes (field.Always at (form.Name N)) (words (says n.text))
unfolding field_bytes
name_bytes at n = sym (rw (← n.text.wide) (padded-said n.text.field.now n.text.text))
