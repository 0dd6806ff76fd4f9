use Rattle.std.proofs.Common.{◌≡◌, ℕ, true, List, ◌++◌, length}
use Rattle.std.specs.Fmt.{HasWritten, IsPlainFormatter}
use Rattle.layout.specs.Layout.{within}
use Rattle.inspector.specs.Labels.{spelt}
use Rattle.inspector.specs.Shown.{bytes_text}
use Rattle.inspector.proofs.shown.FieldsDisplay.fmt.Given as goal

abbrev pub invariant-loop-name : goal.invariant-loop-name
invariant-loop-name g l = record {
  inside : within (length l.self.reader.src.now) l.name-iterator.b.rest.now ≡ true;
  written :
      IsPlainFormatter l.fn.f → (t : List ℕ) × HasWritten g.W.Write.write_str_gives l.fn.f t l.f
      × (t ++ bytes_text (spelt l.name-iterator.a.rest.now) l.name-iterator.b.rest.now l.self.reader.src.now
      ≡ bytes_text (spelt l.self.names.now) l.self.table.now l.self.reader.src.now);
}
