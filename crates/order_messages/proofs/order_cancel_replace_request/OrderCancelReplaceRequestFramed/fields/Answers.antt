use Rattle.order_messages.proofs.order_cancel_replace_request.OrderCancelReplaceRequestFramed.fields.Goals as goal

-- the field at 108 is the 16th of the table
pub code-requires-3-clause-listed : goal.code-requires-3-clause-listed
code-requires-3-clause-listed c = c.requires.passed.1.1.1.1.1.1.1.1.1.1.1.1.1.1.1.0
