-- The eighteen functions, one by one: each is `host_of` of its call on what it is lent, and the operands that C's types give are words and bytes. What is
-- proved of all of them is proved of `host_of`.
use mathlib.Core.Path.{◌≡◌, refl}
use mathlib.Core.List.{List, []}
use Prim.Native.Nat.{ℕ}
use Rattle.host.specs.Host.{Lent, lent_all, host_of}
use Rattle.wire.specs.Bytes.{Bytes}
use Rattle.rehearsal.specs.Small.{CallWords}
use Rattle.rehearsal.specs.Rehearsal.{Function, new, write, add, accept, block, unblock, remove, track, start, pause, abort, new_epoch, reset, start_token}
use Rattle.rehearsal.specs.Rehearsal.{dscan, dcheck, export, restore, Operands, left_by, call_of}
use Rattle.rehearsal.specs.Promises.{lent_to}
use Rattle.rehearsal.proofs.Words.{no_bytes}

-- what it is lent beside session and table
abbrev pub list_of : Function → List ℕ
list_of f = (lent_to f [] []).list

abbrev pub buffer_of : Function → List ℕ
buffer_of f = (lent_to f [] []).buffer

abbrev pub lent_with : Function → List ℕ → List ℕ → Lent
lent_with f s t = lent_all s t (list_of f) (buffer_of f) (lent_to f [] []).resume

pub record IsHost (f : Function) (s t : List ℕ) : Type 0 where
  pub left : left_by f s t ≡ host_of (call_of f) (lent_with f s t)
  pub lent : lent_to f s t ≡ lent_with f s t

pub is-host : (f : Function) (s t : List ℕ) → IsHost f s t
is-host (new streams) s t = record { left = refl; lent = refl }
is-host (write page mark) s t = record { left = refl; lent = refl }
is-host (add page) s t = record { left = refl; lent = refl }
is-host (accept page) s t = record { left = refl; lent = refl }
is-host (block page) s t = record { left = refl; lent = refl }
is-host (unblock page) s t = record { left = refl; lent = refl }
is-host (remove page) s t = record { left = refl; lent = refl }
is-host track s t = record { left = refl; lent = refl }
is-host start s t = record { left = refl; lent = refl }
is-host pause s t = record { left = refl; lent = refl }
is-host abort s t = record { left = refl; lent = refl }
is-host new_epoch s t = record { left = refl; lent = refl }
is-host reset s t = record { left = refl; lent = refl }
is-host start_token s t = record { left = refl; lent = refl }
is-host (dscan first count list budget) s t = record { left = refl; lent = refl }
is-host (dcheck list budget) s t = record { left = refl; lent = refl }
is-host (export list buffer stream resume info budget) s t = record { left = refl; lent = refl }
is-host (restore list info budget) s t = record { left = refl; lent = refl }

pub record InC (f : Function) : Type 0 where
  pub call : CallWords (call_of f)
  pub list : Bytes (list_of f)
  pub buffer : Bytes (buffer_of f)

pub in_c : (f : Function) → Operands f → InC f
in_c (new streams) o = record { call = o; list = no_bytes; buffer = no_bytes }
in_c (write page mark) o = record { call = o; list = no_bytes; buffer = no_bytes }
in_c (add page) o = record { call = (o, tt); list = no_bytes; buffer = no_bytes }
in_c (accept page) o = record { call = (o, tt); list = no_bytes; buffer = no_bytes }
in_c (block page) o = record { call = (o, tt); list = no_bytes; buffer = no_bytes }
in_c (unblock page) o = record { call = (o, tt); list = no_bytes; buffer = no_bytes }
in_c (remove page) o = record { call = (o, tt); list = no_bytes; buffer = no_bytes }
in_c track o = record { call = tt; list = no_bytes; buffer = no_bytes }
in_c start o = record { call = tt; list = no_bytes; buffer = no_bytes }
in_c pause o = record { call = tt; list = no_bytes; buffer = no_bytes }
in_c abort o = record { call = tt; list = no_bytes; buffer = no_bytes }
in_c new_epoch o = record { call = tt; list = no_bytes; buffer = no_bytes }
in_c reset o = record { call = tt; list = no_bytes; buffer = no_bytes }
in_c start_token o = record { call = tt; list = no_bytes; buffer = no_bytes }
in_c (dscan first count list budget) o = record { call = (o.0, o.1, o.3); list = o.2; buffer = no_bytes }
in_c (dcheck list budget) o = record { call = o.1; list = o.0; buffer = no_bytes }
in_c (export list buffer stream resume info budget) o = record { call = (o.2, o.4, o.5); list = o.0; buffer = o.1 }
in_c (restore list info budget) o = record { call = (o.1, o.2); list = o.0; buffer = no_bytes }
