-- What each state allows and where each call takes it, as document 01 lists the states, in its order: the one place where they are listed.
use Rattle.std.specs.Prelude.{List, [], ◌∷◌}
use Rattle.words.specs.Hints as hints
use Rattle.words.specs.Operations as operations
use Rattle.states.specs.States.{State, Free, Blocked, Pending, PendingBlocked, Mapped, Exported, ExportedModified, ExportedBlocked, ExportedRemoved}
use Rattle.states.specs.States.{PendingExported, PendingExportedModified, PendingExportedBlocked}
use Rattle.states.specs.States.{Change, ◌⇒◌, Numbered, ◌⟼◌}

-- ---- guest and memory calls

-- write: in 4, 24, 25 the mark is stored
abbrev pub writable_states : List State
writable_states = Mapped ∷ Exported ∷ ExportedModified ∷ []

-- in 1 and 26 it lands only if Cached is set
abbrev pub landing_states : List State
landing_states = Blocked ∷ ExportedBlocked ∷ []

-- add: 0 becomes 2
abbrev pub adds : List Change
adds = Free ⇒ Pending ∷ []

-- accept: 2 becomes 4; 29 and 30 become 25
abbrev pub accepts : List Change
accepts = Pending ⇒ Mapped ∷ PendingExported ⇒ ExportedModified ∷ PendingExportedModified ⇒ ExportedModified ∷ []

-- block: 4→1, 2→3, 24 and 25→26, 29 and 30→31
abbrev pub blocks : List Change
blocks =
    Mapped ⇒ Blocked
    ∷ Pending ⇒ PendingBlocked
    ∷ Exported ⇒ ExportedBlocked
    ∷ ExportedModified ⇒ ExportedBlocked
    ∷ PendingExported ⇒ PendingExportedBlocked
    ∷ PendingExportedModified ⇒ PendingExportedBlocked
    ∷ []

-- unblock: 1→4, 3→2, 26→25, 31→30
abbrev pub unblocks : List Change
unblocks = Blocked ⇒ Mapped ∷ PendingBlocked ⇒ Pending ∷ ExportedBlocked ⇒ ExportedModified ∷ PendingExportedBlocked ⇒ PendingExportedModified ∷ []

-- remove: 1 and 3→0, 26 and 31→27
abbrev pub removes : List Change
removes = Blocked ⇒ Free ∷ PendingBlocked ⇒ Free ∷ ExportedBlocked ⇒ ExportedRemoved ∷ PendingExportedBlocked ⇒ ExportedRemoved ∷ []

-- ---- session calls

-- start: any state outside 0 to 4, or strange, is 45
abbrev pub startable_states : List State
startable_states = Free ∷ Blocked ∷ Pending ∷ PendingBlocked ∷ Mapped ∷ []

-- start and RESTORE: stamp 0 except in 1 and 3
abbrev pub stamped_states : List State
stamped_states = Blocked ∷ PendingBlocked ∷ []

-- pause: any of 1, 3, 26, 31 is 48
abbrev pub blocked_states : List State
blocked_states = Blocked ∷ PendingBlocked ∷ ExportedBlocked ∷ PendingExportedBlocked ∷ []

-- start token: 53 for 25, 26, 27, 30, 31
abbrev pub changed_states : List State
changed_states = ExportedModified ∷ ExportedBlocked ∷ ExportedRemoved ∷ PendingExportedModified ∷ PendingExportedBlocked ∷ []

-- and for 24 or 29 with Dirty
abbrev pub sent_states : List State
sent_states = Exported ∷ PendingExported ∷ []

-- 54 for 1 to 4
abbrev pub unsent_states : List State
unsent_states = Blocked ∷ Pending ∷ PendingBlocked ∷ Mapped ∷ []

-- ---- scans

-- PENDING 1 for 2, 29, 30, 31
abbrev pub pending_states : List State
pending_states = Pending ∷ PendingExported ∷ PendingExportedModified ∷ PendingExportedBlocked ∷ []

-- 2, 4; 25, 30; 27; DSCAN also 26, 31, at which a DCHECK stops; 24 and 29 are listed with Dirty alone
abbrev pub listed_states : List State
listed_states = Pending ∷ Mapped ∷ ExportedModified ∷ PendingExportedModified ∷ ExportedRemoved ∷ ExportedBlocked ∷ PendingExportedBlocked ∷ []

-- the hint: 2, 4 (0); 25, 30, 24, 29 (1); 27 (3); 26, 31 (2)
abbrev pub hinted : List Numbered
hinted =
    Pending ⟼ hints.not_exported
    ∷ Mapped ⟼ hints.not_exported
    ∷ ExportedModified ⟼ hints.exported_modified
    ∷ PendingExportedModified ⟼ hints.exported_modified
    ∷ Exported ⟼ hints.exported_modified
    ∷ PendingExported ⟼ hints.exported_modified
    ∷ ExportedRemoved ⟼ hints.exported_removed
    ∷ ExportedBlocked ⟼ hints.exported_blocked
    ∷ PendingExportedBlocked ⟼ hints.exported_blocked
    ∷ []

-- a listed 24 becomes 25 and 29 becomes 30
abbrev pub looks : List Change
looks = Exported ⇒ ExportedModified ∷ PendingExported ⇒ PendingExportedModified ∷ []

-- a listed page in 2, 4, 25, 30 then has Dirty 0 and stamp equal to the TLB epoch
abbrev pub renewed_states : List State
renewed_states = Pending ∷ Mapped ∷ ExportedModified ∷ PendingExportedModified ∷ []

-- ---- exports

-- 0, 1, 3 are status 4, as a strange page is; 24 and 29 are so without Dirty
abbrev pub barred_states : List State
barred_states = Free ∷ Blocked ∷ PendingBlocked ∷ []

-- the tests of Dirty and stamp are not for 26, 27, 31
abbrev pub cancelled_states : List State
cancelled_states = ExportedBlocked ∷ ExportedRemoved ∷ PendingExportedBlocked ∷ []

-- 4→24 and 2→29; 25→24 and 30→29; 26→1, 31→3, 27→0
abbrev pub exports : List Change
exports =
    Mapped ⇒ Exported
    ∷ Pending ⇒ PendingExported
    ∷ ExportedModified ⇒ Exported
    ∷ PendingExportedModified ⇒ PendingExported
    ∷ ExportedBlocked ⇒ Blocked
    ∷ PendingExportedBlocked ⇒ PendingBlocked
    ∷ ExportedRemoved ⇒ Free
    ∷ []

-- 4 and 2 MIGRATE; 25 and 30 REMIGRATE; 26, 31, 27 CANCEL
abbrev pub operated : List Numbered
operated =
    Mapped ⟼ operations.migrate
    ∷ Pending ⟼ operations.migrate
    ∷ ExportedModified ⟼ operations.remigrate
    ∷ PendingExportedModified ⟼ operations.remigrate
    ∷ ExportedBlocked ⟼ operations.cancel
    ∷ PendingExportedBlocked ⟼ operations.cancel
    ∷ ExportedRemoved ⟼ operations.cancel
    ∷ []

-- data pages are those exported from 4 or 25
abbrev pub data_states : List State
data_states = Mapped ∷ ExportedModified ∷ []

-- ---- RESTORE

-- 24 to 27 and 29 to 31, which an abort leaves: 4 in any other, or strange; and in these, while Idle, the calls on memory are 45
abbrev pub left_states : List State
left_states =
    Exported ∷ ExportedModified ∷ ExportedBlocked ∷ ExportedRemoved ∷ PendingExported ∷ PendingExportedModified ∷ PendingExportedBlocked ∷ []

-- 24, 25→4; 29, 30→2; 26→1; 31→3; 27→0
abbrev pub restores : List Change
restores =
    Exported ⇒ Mapped
    ∷ ExportedModified ⇒ Mapped
    ∷ PendingExported ⇒ Pending
    ∷ PendingExportedModified ⇒ Pending
    ∷ ExportedBlocked ⇒ Blocked
    ∷ PendingExportedBlocked ⇒ PendingBlocked
    ∷ ExportedRemoved ⇒ Free
    ∷ []
