-- Each field is the definition's, of the state that the number names.
use Rattle.entry.specs.Entry.{sent_entry}
use Rattle.page.specs.Page.{page_of}
use Rattle.entry.proofs.succeed.Goals as goal

pub returns : goal.returns
unfolding sent_entry page_of
returns c = rw (
  c.export_words-words.ensures,
  c.buffer_word-buffer.ensures,
  c.answer_word-word.ensures,
  ← c.state_of-n.ensures.result_value,
  ← c.is_data-contents.ensures,
  ← c.operation_of-operation.ensures,
  ← c.is_pending-pending.ensures,
)
