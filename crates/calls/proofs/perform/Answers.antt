-- Each arm is its clause of the definition, by the contract of the call that it makes.
use mathlib.Core.Path.{refl, sym, ap, ◌∙◌}
use Rattle.migration.proofs.Laws.{alone-answer, alone-table}
use Rattle.calls.specs.Calls.{without_numbers, token_numbers, scan_numbers, export_numbers, list_numbers}
use Rattle.calls.proofs.perform.Goals as goal

pub returns-in-New : goal.returns-in-New
returns-in-New c =
    record {
      value = rw c.in-New.is (c.without_numbers.ensures ∙ ap without_numbers c.new.ensures.value);
      table_after = rw c.in-New.is c.new.ensures.table_after;
      list_after = rw c.in-New.is;
      buffer_after = rw c.in-New.is;
    }

pub returns-in-OnPage : goal.returns-in-OnPage
returns-in-OnPage c =
    record {
      value = rw c.in-OnPage.is (c.code_alone.ensures ∙ ap without_numbers (rw c.code_of.ensures c.on_page.ensures.value));
      table_after = rw c.in-OnPage.is c.on_page.ensures.table_after;
      list_after = rw c.in-OnPage.is;
      buffer_after = rw c.in-OnPage.is;
    }

pub returns-in-OnAll : goal.returns-in-OnAll
returns-in-OnAll c =
    record {
      value = rw c.in-OnAll.is (c.without_numbers-in-OnAll.ensures ∙ ap without_numbers c.on_all.ensures.value);
      table_after = rw c.in-OnAll.is c.on_all.ensures.table_after;
      list_after = rw c.in-OnAll.is;
      buffer_after = rw c.in-OnAll.is;
    }

pub returns-in-OnSession : goal.returns-in-OnSession
returns-in-OnSession c =
    record {
      value = rw c.in-OnSession.is (c.without_numbers-in-OnSession.ensures ∙ ap without_numbers (c.on_session.ensures ∙ alone-answer _ _ _ _ refl));
      table_after = rw c.in-OnSession.is (sym (alone-table _ _ _));
      list_after = rw c.in-OnSession.is;
      buffer_after = rw c.in-OnSession.is;
    }

pub returns-in-StartToken : goal.returns-in-StartToken
returns-in-StartToken c =
    record {
      value = rw c.in-StartToken.is (c.token_numbers.ensures ∙ ap token_numbers c.start_token.ensures.value);
      table_after = rw c.in-StartToken.is;
      list_after = rw c.in-StartToken.is;
      buffer_after = rw c.in-StartToken.is;
    }

pub returns-in-Dscan : goal.returns-in-Dscan
returns-in-Dscan c =
    record {
      value = rw c.in-Dscan.is (c.scan_numbers.ensures ∙ ap scan_numbers c.dscan.ensures.value);
      table_after = rw c.in-Dscan.is c.dscan.ensures.table_after;
      list_after = rw c.in-Dscan.is c.dscan.ensures.list_after;
      buffer_after = rw c.in-Dscan.is;
    }

pub returns-in-Dcheck : goal.returns-in-Dcheck
returns-in-Dcheck c =
    record {
      value = rw c.in-Dcheck.is (c.scan_numbers-in-Dcheck.ensures ∙ ap scan_numbers c.dcheck.ensures.value);
      table_after = rw c.in-Dcheck.is c.dcheck.ensures.table_after;
      list_after = rw c.in-Dcheck.is c.dcheck.ensures.list_after;
      buffer_after = rw c.in-Dcheck.is;
    }

pub returns-in-Export : goal.returns-in-Export
returns-in-Export c =
    record {
      value = rw c.in-Export.is (c.export_numbers.ensures ∙ ap export_numbers c.export.ensures.value);
      table_after = rw c.in-Export.is c.export.ensures.table_after;
      list_after = rw c.in-Export.is c.export.ensures.list_after;
      buffer_after = rw c.in-Export.is c.export.ensures.buffer_after;
    }

pub returns-in-Restore : goal.returns-in-Restore
returns-in-Restore c =
    record {
      value = rw c.in-Restore.is (c.list_numbers.ensures ∙ ap list_numbers c.restore.ensures.value);
      table_after = rw c.in-Restore.is c.restore.ensures.table_after;
      list_after = rw c.in-Restore.is c.restore.ensures.list_after;
      buffer_after = rw c.in-Restore.is;
    }
