-- By the laws of every `Word`, at the runs of each: a setter's field is a run, and which one is said here.
use mathlib.Core.Path.{refl, ap}
use lib.Dec.{eqb, lit<}
use lib.ListN.{set}
use Rattle.words.specs.Entry.{entry_of, with_level, with_pending, with_state, with_l2_map, with_mig_type, with_gpa, with_operation, with_status}
use Rattle.words.specs.Info.{info_of, with_format, with_first, with_hpa, with_last}
use Rattle.words.specs.Class.{stands}
use Rattle.words.specs.Promises.{EntryPromises, InfoPromises, PageAddress, ClassPromises, Met}
use Rattle.words.proofs.Runs.{bit-flag}
use Rattle.words.proofs.Words.{word-promises, setter}
use Rattle.words.proofs.EntryLaws.{entry, addressed-fits, byte-address}
use Rattle.words.proofs.InfoLaws.{info, info-fits}
use Rattle.words.proofs.ClassLaws.{stands-class, class-stands}

pub entry-promises : EntryPromises
unfolding entry_of
entry-promises =
    record {
      word = word-promises entry;
      level = setter entry with_level 0 _ _ (lit< tt) refl refl (λ e x h. refl);
      pending = setter entry (λ e x. with_pending e (eqb x 1)) 1 _ _ (lit< tt) refl refl (λ e x h. ap (set (entry.runs e) 1) (bit-flag x h));
      state = setter entry with_state 2 _ _ (lit< tt) refl refl (λ e x h. refl);
      l2_map = setter entry with_l2_map 4 _ _ (lit< tt) refl refl (λ e x h. refl);
      mig_type = setter entry with_mig_type 5 _ _ (lit< tt) refl refl (λ e x h. refl);
      gpa = setter entry with_gpa 6 _ _ (lit< tt) refl refl (λ e x h. refl);
      operation = setter entry with_operation 7 _ _ (lit< tt) refl refl (λ e x h. refl);
      status = setter entry with_status 9 _ _ (lit< tt) refl refl (λ e x h. refl);
    }

pub info-promises : InfoPromises
unfolding info_of
info-promises =
    record {
      word = word-promises info;
      format = setter info with_format 0 _ _ (lit< tt) refl refl (λ x y h. refl);
      first = setter info with_first 1 _ _ (lit< tt) refl refl (λ x y h. refl);
      hpa = setter info with_hpa 2 _ _ (lit< tt) refl refl (λ x y h. refl);
      last = setter info with_last 4 _ _ (lit< tt) refl refl (λ x y h. refl);
    }

pub page-address : PageAddress
page-address = record { address = byte-address }

pub class-promises : ClassPromises
class-promises = record { standing = stands-class; alone = class-stands }

pub met : Met
unfolding entry_of info_of stands
met =
    record {
      page = lit< tt;
      before = lit< tt;
      after = lit< tt;
      entry = addressed-fits 5 (lit< tt);
      status_set = refl;
      info = info-fits 0x5000;
      last_set = refl;
      free = tt;
      non_leaf = tt;
      leaf = tt;
      unlisted = tt;
    }
