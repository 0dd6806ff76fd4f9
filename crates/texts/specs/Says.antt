-- What a borrowed text says, and the same text kept. Assumes nothing.
use Rattle.std.specs.Prelude.{ℕ, List}
use Rattle.texts.specs.Bytes.{said}
use Rattle.texts.specs.declared.fixed.FixedText.{FixedText}
use Rattle.texts.specs.declared.text.Text.{Text}

abbrev pub says : {N : ℕ} → Text N → List ℕ
says t = said t.field.now

-- the text with its bytes for its own
abbrev pub kept : {N : ℕ} → Text N → FixedText N
kept t = record { bytes = t.field.now; end = t.end; wide = t.wide; text = t.text; ends = t.ends }

-- and a kept text lent, at no place of any message
abbrev pub lent : {N : ℕ} → FixedText N → Text N
lent x =
    record {
      field = record { ref_ptr = (0, 0); now = x.bytes };
      offset = 0;
      end = x.end;
      wide = x.wide;
      text = x.text;
      ends = x.ends;
    }
