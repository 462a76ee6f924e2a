-- What a serial step leaves, as the code keeps it.
use Rattle.spec_kernel.specs.Serving as kernel
use Rattle.dl_kernel.specs.declared.serving.StepResult.{StepResult}
use Rattle.dl_kernel.specs.Calls.{spawned_list}

abbrev pub result_in : StepResult → kernel.StepResult
result_in s =
    record {
      thread = s.thread;
      spawned = spawned_list s.spawned;
      request = s.request;
      words = s.words.words;
      loads = s.loads;
      outputs = s.outputs;
    }
