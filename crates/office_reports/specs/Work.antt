-- What is left to do of a vessel's list (our own).
use Rattle.std.specs.Prelude.{◌≡◌, ℕ, ◌-◌, Bool, List, [], ◌∷◌, ◌++◌, ◌&&◌, map, filter, count_by, length, codes, decimal, is_none, is_some, string_bytes, Option, None, Some}
use Rattle.std.specs.{Borrow.Bor, List.flat_map, Option.option_map, Map.values_of, BTreeMap.insert_entry, Ordering.nat_cmp, Cmp.Lexicographic.slice_cmp}
use Rattle.box6346.specs.{declared.box_number.BoxNumber.BoxNumber, declared.slot.Slot.Slot}
use Rattle.edi_messages.specs.{Owned.call_content, Purposes.CallContent}
use Rattle.terminal_core.specs.{declared.lines.Side.Side, declared.lines.Side.TheVariants.{Load, Discharge}, Drop.is_pending, Rows.VisitContent}
use Rattle.terminal_core.specs.State.{TerminalState, LineContent, open_visit}
use Rattle.office_reports.specs.{declared.yard.Standing.Standing, Listed.AreListed, Lists.{HasLine, is_done_line, list_head, port_words}, Yard.slot_in}
use Rattle.office_reports.specs.{Names.{slot_name, line, phrase}, Containers.{above_words, blocker_in}, declared.work.Job.Job}
use Rattle.office_reports.specs.declared.work.WorkReport.{WorkReport}

-- ---- what the report tells

-- a container that is to be loaded or discharged, and its port; where it stands, if it is in the yard, and what stands
-- on it
pub record JobContent : Type 0 where
  pub container : BoxNumber
  pub port : List ℕ
  pub standing : Option Standing
  pub blocker : Option BoxNumber

abbrev pub standing_by : BoxNumber → Option VisitContent → Option Slot → Option Standing
standing_by container (Some visit) (Some slot) =
    Some (record { slot = slot; container = container; size_type = visit.size_type; is_laden = visit.is_laden })
standing_by container (Some visit) None = None
standing_by container None slot = None

-- where a container stands by its open visit, if it is in the yard
abbrev pub standing_in : TerminalState → BoxNumber → Option Standing
standing_in state container = standing_by container (open_visit state container) (slot_in state container)

abbrev pub job_of : TerminalState → List ℕ × LineContent → JobContent
job_of state entry = record {
  container = entry.0;
  port = entry.1.port;
  standing = standing_in state entry.0;
  blocker = blocker_in state entry.0;
}

abbrev pub is_open_entry : List ℕ × LineContent → Bool
is_open_entry entry = is_pending entry.1.state

-- the open lines of a list, by their containers
abbrev pub jobs_of : TerminalState → List (List ℕ × LineContent) → List JobContent
jobs_of state list = map (job_of state) (filter is_open_entry list)

-- the open lines of a call's list, by their containers; how many of all its lines are done
pub record WorkContent : Type 0 where
  pub call : CallContent
  pub side : Side
  pub jobs : List JobContent
  pub done : ℕ
  pub whole : ℕ

-- nothing of a list that has no line at all
abbrev pub work_by : TerminalState → CallContent → Side → List (List ℕ × LineContent) → Option WorkContent
work_by state call side [] = None
work_by state call side (entry ∷ list) = Some (record {
  call = call;
  side = side;
  jobs = jobs_of state (entry ∷ list);
  done = count_by is_done_line (entry ∷ list);
  whole = length (entry ∷ list);
})

-- ---- the order in which jobs are shown

abbrev pub is_here : JobContent → Bool
is_here job = is_some job.standing

abbrev pub is_absent : JobContent → Bool
is_absent job = is_none job.standing

-- it is in the yard, and another container stands on it
abbrev pub is_covered : JobContent → Bool
is_covered job = is_some job.standing && is_some job.blocker

-- it is in the yard, and nothing stands on it
abbrev pub is_free : JobContent → Bool
is_free job = is_some job.standing && is_none job.blocker

-- slots by block, row and bay, from the top tier down
abbrev pub work_place : Slot → List ℕ
work_place slot = slot.block ∷ slot.row ∷ slot.bay ∷ (255 - slot.tier) ∷ []

-- a job at its place among others, if its container is in the yard
abbrev pub with_job : List (List ℕ × JobContent) → JobContent → Option Standing → List (List ℕ × JobContent)
with_job places job None = places
with_job places job (Some standing) = insert_entry (slice_cmp nat_cmp) places (work_place standing.slot) job

-- these jobs among others, by their places
abbrev pub with_jobs : List (List ℕ × JobContent) → List JobContent → List (List ℕ × JobContent)
with_jobs places [] = places
with_jobs places (job ∷ jobs) = with_jobs (with_job places job job.standing) jobs

-- loads that are in the yard by their places, and then the others by their numbers; discharges by their numbers
abbrev pub in_order : Side → List JobContent → List JobContent
in_order Load jobs = values_of (with_jobs [] jobs) ++ filter is_absent jobs
in_order Discharge jobs = jobs

-- ---- its text

-- LOAD WORK VESSEL VOYAGE
abbrev pub work_head : CallContent → Side → List ℕ
work_head call side = list_head side (codes "WORK") call

-- SLOT BOX SIZE, the port if there is one, and FREE, or UNDER the container that stands on it; of one that is not in the
-- yard BOX, the port if there is one, and NOT IN
abbrev pub load_line : JobContent → Option Standing → List ℕ
load_line job None = line (job.container ∷ port_words job.port ++ codes "NOT IN" ∷ [])
load_line job (Some standing) =
    line (slot_name standing.slot ∷ job.container ∷ standing.size_type
    ∷ port_words job.port ++ phrase (above_words job.blocker) ∷ [])

-- IN SLOT, if it is here already
abbrev pub here_words : Option Standing → List (List ℕ)
here_words None = []
here_words (Some standing) = phrase (codes "IN" ∷ slot_name standing.slot ∷ []) ∷ []

-- BOX, the port if there is one, and IN SLOT if it is here already
abbrev pub discharge_line : JobContent → List ℕ
discharge_line job = line (job.container ∷ port_words job.port ++ here_words job.standing)

abbrev pub job_line : Side → JobContent → List ℕ
job_line Load job = load_line job job.standing
job_line Discharge job = discharge_line job

-- a FREE b UNDER c NOT IN; of a discharge a OPEN b IN
abbrev pub jobs_end : Side → List JobContent → List ℕ
jobs_end Load jobs =
    line (decimal (count_by is_free jobs) ∷ codes "FREE" ∷ decimal (count_by is_covered jobs) ∷ codes "UNDER"
    ∷ decimal (count_by is_absent jobs) ∷ codes "NOT IN" ∷ [])
jobs_end Discharge jobs =
    line (decimal (length jobs) ∷ codes "OPEN" ∷ decimal (count_by is_here jobs) ∷ codes "IN" ∷ [])

-- the jobs in their order, and the counts
abbrev pub jobs_text : Side → List JobContent → List ℕ
jobs_text side jobs = flat_map (job_line side) (in_order side jobs) ++ jobs_end side jobs

abbrev pub work_text : WorkContent → List ℕ
work_text work = work_head work.call work.side ++ jobs_text work.side work.jobs

abbrev pub work_found : TerminalState → CallContent → Side → List (List ℕ × LineContent) → Option (List ℕ)
work_found state call side list = option_map work_text (work_by state call side list)

-- what is left to do of a call's list, by the containers of its lines
pub record IsWorkReport (state : TerminalState) (call : CallContent) (side : Side)
    (found : Option (List ℕ)) : Type 0 where
  pub list : List (List ℕ × LineContent)
  pub listed : AreListed (HasLine state call side) list
  pub is : found ≡ work_found state call side list

-- ---- as the code has it

abbrev pub job_content : Job → JobContent
job_content job = record {
  container = job.container;
  port = string_bytes job.port;
  standing = job.standing;
  blocker = job.blocker;
}

abbrev pub work_content : WorkReport → WorkContent
work_content report = record {
  call = call_content report.call.now;
  side = report.side;
  jobs = map job_content report.jobs.items;
  done = report.done;
  whole = report.whole;
}

abbrev pub placed_contents : List (List ℕ × Bor Job) → List (List ℕ × JobContent)
placed_contents places = map (λ place. (place.0, job_content place.1.now)) places
