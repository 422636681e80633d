use Rattle.std.proofs.Common.{◌≡◌, ◌++◌, drop}
use Rattle.std.specs.Prelude.{flat_map}
use Rattle.report_text.specs.Texts.{line, agent_texts}
use Rattle.report_text.proofs.text.put_logs.Given as goal

abbrev pub invariant-loop-agent : goal.invariant-loop-agent
invariant-loop-agent l = l.text.items ++ flat_map line (flat_map agent_texts (drop l.agent-index l.agents)) ≡ l.fn.text.items ++ flat_map line (flat_map agent_texts l.agents)
