-- Why an open or a making fails, from one step to the next.
use Rattle.std.proofs.Common.{◌≡◌, ℕ, ◌≤◌, subst, inl, inr, arith}
use Rattle.sqlite_store.specs.{declared.error.OpenError.{OpenError, TheVariants.{OutOfMemory, Io, Full, Refused}}, Opening.FailsToOpen}
use Rattle.sqlite_wal.specs.{Files.IsHuge, Opening.RefusesLog, Outcome.HasCause, Recovery.Image, declared.error.Error.Error}
use Rattle.sqlite_wal.specs.declared.error.Error.TheVariants as wal
use Rattle.desk_database.specs.{Fault.{fault_of_probe, fault_of_store}, Log.{CanReplay, stored_page}, Opening.WhyUnread, declared.memory_file_fault.MemoryFileFault.MemoryFileFault}
use Rattle.desk_database.specs.Opening as opening
use Rattle.desk_database.specs.declared.memory_file_fault.MemoryFileFault.TheVariants as fault

pub wanted_more : (a b : ℕ) (Limit P Q : Type 0) (e : OpenError) → (Q → P)
    → FailsToOpen a b Limit P e → FailsToOpen a b Limit Q e
wanted_more a b Limit P Q OutOfMemory so h = tt
wanted_more a b Limit P Q Io so h = h
wanted_more a b Limit P Q Full so h = h
wanted_more a b Limit P Q Refused so h = λ w. h (so w)

-- a step that fails behind one that counted no fault less
pub fails_behind : (a b c : ℕ) (L M P Q : Type 0) (e : OpenError) → a ≤ b → (L → M) → (Q → P)
    → FailsToOpen b c L P e → FailsToOpen a c M Q e
fails_behind a b c L M P Q OutOfMemory less limit so h = tt
fails_behind a b c L M P Q Io less limit so h = omega (arith, h)
fails_behind a b c L M P Q Full less limit so h = limit h
fails_behind a b c L M P Q Refused less limit so h = λ w. h (so w)

pub from_store : (a b c : ℕ) (Limit P : Type 0) (why : MemoryFileFault → Type 0) (e : OpenError)
    → a ≤ b → (¬ P → why fault.Foreign) → FailsToOpen b c Limit P e
    → opening.FailsToOpen a c Limit why (fault_of_store e)
from_store a b c Limit P why OutOfMemory less so h = tt
from_store a b c Limit P why Io less so h = omega (arith, h)
from_store a b c Limit P why Full less so h = h
from_store a b c Limit P why Refused less so h = so h

-- why the log was refused
pub from_log : (a b : ℕ) (image now : Image) (e : Error) → image ≡ now
    → HasCause a b (RefusesLog stored_page image.log) e
    → opening.FailsToOpen a b (IsHuge stored_page now) (WhyUnread image) (fault_of_probe e)
from_log a b image now (wal.Io e) same h = h
from_log a b image now wal.OutOfMemory same h = tt
from_log a b image now wal.Full same h =
    elim h [ inl x ↦ absurd (cc) | inr x ↦ subst (IsHuge stored_page) same (inl x.1) ]
from_log a b image now wal.Corrupt same h =
    elim h [ inl x ↦ λ can. x.1 can.0 can.1 | inr x ↦ absurd (cc) ]
from_log a b image now wal.Closed same h = elim h [ inl x ↦ absurd (cc) | inr x ↦ absurd (cc) ]
from_log a b image now wal.NoSuchPage same h = elim h [ inl x ↦ absurd (cc) | inr x ↦ absurd (cc) ]
from_log a b image now wal.Exists same h = elim h [ inl x ↦ absurd (cc) | inr x ↦ absurd (cc) ]

-- what refuses them unread refuses them
pub why_more : (a b : ℕ) (Limit : Type 0) (image : Image) (why : MemoryFileFault → Type 0)
    (e : MemoryFileFault) → (¬ CanReplay image.log → why fault.Foreign)
    → opening.FailsToOpen a b Limit (WhyUnread image) e → opening.FailsToOpen a b Limit why e
why_more a b Limit image why fault.Foreign so h = so h
why_more a b Limit image why fault.Disk so h = h
why_more a b Limit image why fault.Full so h = h
why_more a b Limit image why fault.OutOfMemory so h = h
why_more a b Limit image why fault.Unfounded so h = absurd h
why_more a b Limit image why fault.Founded so h = absurd h
why_more a b Limit image why fault.OtherLog so h = absurd h
why_more a b Limit image why fault.Place so h = absurd h
why_more a b Limit image why fault.Missing so h = absurd h
why_more a b Limit image why fault.InUse so h = absurd h
why_more a b Limit image why fault.HotJournal so h = absurd h
