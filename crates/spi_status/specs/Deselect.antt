-- What CS# rising does to the status register and to sleep.
use Rattle.std.specs.Prelude.{ℕ, ◌/◌, ◌%◌, Bool, true, false, cond, not, ◌&&◌, eqb}
use Rattle.parts.specs.declared.status.Status.{Status}
use Rattle.parts.specs.Status.{with_wel}
use Rattle.selection.specs.declared.phase.Field.{Field}
use Rattle.selection.specs.declared.phase.Field.TheVariants.{Opcode, ReadAddress, FastAddress, WriteAddress, Dummy, Data, StatusByte}
use Rattle.selection.specs.declared.phase.Action.{Action}
use Rattle.selection.specs.declared.phase.Action.TheVariants.{SetLatch, ClearLatch, FallAsleep, WriteStatus}
use Rattle.selection.specs.declared.phase.Phase.{Phase}
use Rattle.selection.specs.declared.phase.Phase.TheVariants.{Rest, Ignoring, Taking, Showing, Waiting, Pending}

-- SRWD, BP1 and BP0 by bits 7, 3 and 2 of a byte, with WEL cleared
abbrev pub taken_status : ℕ → Status
taken_status v = record { srwd = eqb (v / 128 % 2) 1; bp1 = eqb (v / 8 % 2) 1; bp0 = eqb (v / 4 % 2) 1; wel = false }

-- the end of a WRSR whose first data byte v is whole: with WEL set it gives SRWD, BP1 and BP0, but not if SRWD is set while WP# is
-- low in the sample in which CS# rises. WEL is cleared in any case
abbrev pub written_status : Status → Bool → ℕ → Status
written_status st wp v = cond (st.wel && not (st.srwd && not wp)) (taken_status v) (with_wel st false)

-- what waited for CS# to rise: WREN sets WEL, WRDI clears it, SLEEP leaves it (own choice), and a WRSR ends as above
abbrev pub action_status : Status → Bool → Action → Status
action_status st wp SetLatch = with_wel st true
action_status st wp ClearLatch = with_wel st false
action_status st wp FallAsleep = st
action_status st wp (WriteStatus v) = written_status st wp v

-- a WRITE that had a whole data byte clears WEL as it ends, even if protection kept all of it out (own choice; sheets 003 and 004 name
-- the command); nothing else that ends while bits come in changes the register
abbrev pub field_status : Status → Field → Status
field_status st Opcode = st
field_status st ReadAddress = st
field_status st FastAddress = st
field_status st WriteAddress = st
field_status st (Dummy a) = st
field_status st (Data a whole) = cond whole (with_wel st false) st
field_status st StatusByte = st

-- the status register after CS# rises at a sample with WP# at wp
abbrev pub status_after : Status → Bool → Phase → Status
status_after st wp Rest = st
status_after st wp Ignoring = st
status_after st wp (Taking f n v) = field_status st f
status_after st wp (Showing s k) = st
status_after st wp (Waiting a) = action_status st wp a
status_after st wp (Pending v a) = with_wel st false

abbrev pub is_sleep : Action → Bool
is_sleep SetLatch = false
is_sleep ClearLatch = false
is_sleep FallAsleep = true
is_sleep (WriteStatus v) = false

abbrev pub sleeps : Phase → Bool
sleeps Rest = false
sleeps Ignoring = false
sleeps (Taking f n v) = false
sleeps (Showing s k) = false
sleeps (Waiting a) = is_sleep a
sleeps (Pending v a) = false

-- whether the part sleeps once CS# has risen: a whole SLEEP puts it to sleep, and the end of the selection that it slept through wakes
-- it (own choice; sheet 000 gives a time)
abbrev pub asleep_after : Bool → Phase → Bool
asleep_after true ph = false
asleep_after false ph = sleeps ph
