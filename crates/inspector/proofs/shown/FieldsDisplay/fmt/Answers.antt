use Rattle.std.proofs.Common.{true, ◌++◌, refl}
use Rattle.std.proofs.Output.{has_written_append, has_written_of_eq}
use Rattle.layout.specs.Layout.{form_of, got}
use Rattle.inspector.specs.Shown.{field_text}
use Rattle.inspector.proofs.Shows.{field-more, fields-done, within_rest}
use Rattle.inspector.proofs.shown.FieldsDisplay.fmt.Goals as goal

pub loop-name-preserved : goal.loop-name-preserved
loop-name-preserved g c =
    let s = c.in-Some.ensures.steps in
    let bs = c.args.self.now.reader.src.now in record {
      inside = within_rest _ _ _ _ s.1 c.loop-name.invariant.inside;
      written = λ p.
          let i = c.loop-name.invariant.written p in (
            i.0 ++ field_text c.in-Some.name.now.now (form_of c.in-Some.field.now) (got bs c.in-Some.field.now),
            has_written_append _ _ _ _ _ _ i.1 (c.in_ok-write.ensures.writes i.1.plain (refl {a = true})),
            field-more i.0 _ bs _ _ _ _ c.in-Some.name.now c.in-Some.field.now s.0 s.1 i.2,
          );
    }

pub returns-clause-writes : goal.returns-clause-writes
returns-clause-writes g c p ok =
    let i = c.loop-name.invariant.written p in
    has_written_of_eq _ _ _ _ _ (fields-done i.0 _ c.args.self.now.reader.src.now _ _ c.in-None.ensures.steps i.2) i.1
