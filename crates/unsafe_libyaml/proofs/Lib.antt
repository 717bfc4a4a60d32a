mod WholeRuns
mod WholeLoads
mod LargeLoads
mod OneRuns
mod OneLoads
