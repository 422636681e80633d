-- The arguments of tool calls, as agent files write them: what each is called and what may stand for it.
use Rattle.std.specs.Prelude.{ℕ, Bool, true, false, List, codes}

pub data ArgumentKind : Type 0 where
  -- the name of a class, the name of a member, a descriptor
  Text : ArgumentKind
  -- the name of one of the agent's own sets of rules
  SetName : ArgumentKind
  Truth : ArgumentKind
  -- a whole number from 0 to 4294967295, and one of signed 64 bits
  Whole : ArgumentKind
  Signed : ArgumentKind
  -- an event by its name, or a whole number, which may be none of an event's
  EventGiven : ArgumentKind
  -- a capability by its name, and a donor by its number from 1
  CapabilityName : ArgumentKind
  DonorNumber : ArgumentKind

pub record Argument : Type 0 where
  pub name : List ℕ
  pub kind : ArgumentKind
  -- whether it is a list of such values
  pub is_list : Bool
  pub may_lack : Bool

abbrev pub one : List ℕ → ArgumentKind → Argument
one name kind = record { name = name; kind = kind; is_list = false; may_lack = false }

abbrev pub many : List ℕ → ArgumentKind → Argument
many name kind = record { name = name; kind = kind; is_list = true; may_lack = false }

-- one that a call may have or lack
abbrev pub optional : Argument → Argument
optional argument = record argument { may_lack = true }

-- ---- each argument; what has one name is of one kind in every call

abbrev pub class : Argument
class = one (codes "class") Text

abbrev pub method : Argument
method = one (codes "method") Text

abbrev pub desc : Argument
desc = one (codes "desc") Text

abbrev pub field : Argument
field = one (codes "field") Text

-- an offset in the code of a method
abbrev pub at : Argument
at = one (codes "at") Whole

-- 0 is the thread that makes the call
abbrev pub thread : Argument
thread = one (codes "thread") Whole

-- of a frame below the top one, which has 0
abbrev pub depth : Argument
depth = one (codes "depth") Whole

-- 0 is the object of the event for which the call is made
abbrev pub object : Argument
object = one (codes "object") Whole

abbrev pub tag : Argument
tag = one (codes "tag") Signed

abbrev pub tags : Argument
tags = many (codes "tags") Signed

-- JVM TI, "Heap Filter Flags"
abbrev pub filter : Argument
filter = one (codes "filter") Whole

-- the tag that each visited object gets
abbrev pub write : Argument
write = one (codes "write") Signed

abbrev pub event : Argument
event = one (codes "event") EventGiven

abbrev pub on : Argument
on = one (codes "on") Truth

abbrev pub caps : Argument
caps = many (codes "caps") CapabilityName

abbrev pub classes : Argument
classes = many (codes "classes") Text

abbrev pub donors : Argument
donors = many (codes "donors") DonorNumber

abbrev pub set : Argument
set = one (codes "set") SetName

-- of retransformation; false where it is lacking
abbrev pub capable : Argument
capable = one (codes "capable") Truth
